-- Document 01, "Refusal numbers", and the numbers of a row's kind and edition: the enums of the code and their numbers.
use Rattle.std.specs.Prelude.{◌≡◌, ℕ, ◌<◌, cond, eqb, Result, Ok, Err, MatchResult}
use Rattle.rules.specs.Start.{express, conventional}
use Rattle.rules.specs.Editions.{edition30, edition33}
use Rattle.codes.specs.declared.Refusal.{Refusal}
use Rattle.codes.specs.declared.Refusal.TheVariants.{NoSuchBridge, NotOwner, Framing, NoSuchBus, BadPlace, Mcfg, Rows, RecordBlock, NoRecord, Registers, NoHotPlug, Rom, NoImage, RecordValue, ShortBuffer}
use Rattle.codes.specs.declared.Kind.{Kind}
use Rattle.codes.specs.declared.Kind.TheVariants.{Express, Conventional}
use Rattle.codes.specs.declared.Edition.{Edition}
use Rattle.codes.specs.declared.Edition.TheVariants.{V3_0, V3_3}

-- document 01, "Refusal numbers", 1 to 11; document 02, a, 12 and 13; g, 14 and 15
abbrev pub number_of : Refusal → ℕ
number_of NoSuchBridge = 1
number_of NotOwner = 2
number_of Framing = 3
number_of NoSuchBus = 4
number_of BadPlace = 5
number_of Mcfg = 6
number_of Rows = 7
number_of RecordBlock = 8
number_of NoRecord = 9
number_of Registers = 10
number_of NoHotPlug = 11
number_of Rom = 12
number_of NoImage = 13
number_of RecordValue = 14
number_of ShortBuffer = 15

-- the number of a call: 0, done, or that of the refusal
abbrev pub number : {A : Type 0} → Result A Refusal → ℕ
number (Ok x) = 0
number (Err r) = number_of r

-- what a call hands back beside its number: zeros where it is refused
abbrev pub given : {A : Type 0} → A → Result A Refusal → A
given zeros (Ok x) = x
given zeros (Err r) = zeros

-- the numbers of a row's kind
abbrev pub kind_number : Kind → ℕ
kind_number Express = express
kind_number Conventional = conventional

-- the kind with this number, or refusal 7 where none has it
abbrev pub DecodesKind : ℕ → Result Kind Refusal → Type 0
DecodesKind n r = MatchResult r (λ kind. kind_number kind ≡ n) (λ e. (e ≡ Rows) × (conventional < n))

-- the numbers of a row's edition
abbrev pub edition_number : Edition → ℕ
edition_number V3_0 = edition30
edition_number V3_3 = edition33

-- the edition with this number, or refusal 7 where none has it
abbrev pub DecodesEdition : ℕ → Result Edition Refusal → Type 0
DecodesEdition n r = MatchResult r (λ e. edition_number e ≡ n) (λ e. (e ≡ Rows) × (edition33 < n))

-- the edition of a bridge in the table
abbrev pub edition_of : ℕ → Edition
edition_of n = cond (eqb n edition33) V3_3 V3_0
