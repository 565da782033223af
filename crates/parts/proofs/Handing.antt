-- What a function hands back by `hands_part` of crates/walks where its search gives a `FoundAt` and its struct is a `Found`. Assumes nothing.
use mathlib.Core.Path.{refl}
use Rattle.walks.proofs.Kit.{named, !, whole, sub, look_in}
use denote.Struct.Laws as LL
use denote.Struct.Rest.{own_shut}
use Rattle.walks.proofs.Values.{struct}
use Rattle.walks.proofs.Parts.{Placed, Holding}
use Rattle.rules.specs.contracts.FoundAt as P
use Rattle.rules.proofs.FoundAt.TheLaws as P'
use Rattle.rules.specs.contracts.Found as S
use Rattle.rules.proofs.Found.TheLaws as S'

-- what the search hands back
abbrev pub found_at : Placed
found_at = record {
  value = struct P.the_type P'.the_laws P'.the_plain;
  number = λ p. p.number;
  is_number = λ p is. (LL.owed P.the_type P'.the_laws p _ is).0;
  at_first = refl;
  read = λ 𝓛 Γ l p. look_in ! 0 (sub ! 0 refl (whole !));
}

-- the struct
abbrev pub found : Holding
found = record {
  row = S.the_row;
  ty = S'.mir (named 0);
  made = λ α n r. record { number = n; part = r };
  typed = λ n r fits wt. (tt, (fits, (wt, tt)));
  shut = λ 𝓛 α n r. own_shut 𝓛 (S.the_type α) (S'.the_laws α) (n, (r, tt));
}
