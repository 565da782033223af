-- The ways into a lent table (`Inside` of crates/walks), and the types of what lies there.
--     bridge, session, bridge_number, ref_ty       the types
--     count_in         the count
--     bridge_look, bridge_put        bridge i, to be left as it is, or replaced
--     index            where a bridge number's bridge stands in the array.        size, offset, bridge_fits      of a bridge there: its bytes, where it lies, and that this does not wrap
-- The ways assume `Logic`, the others nothing.
use mathlib.Core.Path.{refl}
use Prim.Native.Nat.{ℕ, ◌+◌, ◌*◌, ◌%◌, ◌<◌}
use native.Mathlib.Nat.{mod-lt}
use native.Mathlib.Omega.{arith}
use lib.Dec.{lit<}
use lib.ListN.{set}
use Rattle.walks.proofs.Kit.{Ura, full_share, Ty, w64, ty_ref, named, mut, Fits, mem, pointee}
use types.Logic.{Logic}
use borrow.Table.Elements.{at_mul}
use borrow.Struct.Behind.{look_at, put_at_lem}
use Rattle.rules.specs.Limits.{max_rows}
use Rattle.rules.specs.Tables.{no_bridge, bridge_at, with_bridge}
use Rattle.rules.specs.declared.Table.{Table}
use Rattle.rules.specs.declared.Bridge.{Bridge}
use Rattle.rules.specs.declared.BridgeNumber.{BridgeNumber}
use Rattle.rules.specs.contracts.Table as T
use Rattle.rules.proofs.Table.TheLaws as T'
use Rattle.rules.specs.contracts.Bridge as B
use Rattle.rules.proofs.Bridge.TheLaws as B'
use Rattle.rules.specs.contracts.SessionNumber as S
use Rattle.rules.proofs.SessionNumber.TheLaws as S'
use Rattle.rules.specs.contracts.BridgeNumber as N
use Rattle.rules.proofs.BridgeNumber.TheLaws as N'
use Rattle.walks.proofs.Values.{Value, struct, word}
use Rattle.walks.proofs.Inside.{Inside, field-look, field-put}

abbrev pub bridge : Value
bridge = struct B.the_type B'.the_laws B'.the_plain

abbrev pub session : Value
session = struct S.the_type S'.the_laws S'.the_plain

abbrev pub bridge_number : Value
bridge_number = struct N.the_type N'.the_laws N'.the_plain

-- the local of the lent table
abbrev pub ref_ty : Ty
ref_ty = ty_ref (named 0) mut (pointee (T.the_row).written)

-- the bytes of a bridge, and where bridge i lies, from the table's offset o
abbrev pub size : ℕ
size = (mem B.the_row).size

abbrev pub offset : ℕ → ℕ → ℕ
offset i o = i * size + (o + 0)

pub bridge_fits : (i : ℕ) → i < max_rows → Fits w64 (i * size)
unfolding max_rows
bridge_fits i l = record { fits = omega arith }

abbrev pub index : BridgeNumber → ℕ
index n = n.0 % max_rows

pub index_in : (n : BridgeNumber) → index n < max_rows
unfolding max_rows
index_in n = mod-lt n.0 (lit< tt)

module _ {M : Type 1} {𝓤 : Ura M} (𝓛 : Logic 𝓤) (h : Table) (b o : ℕ) where
  pub count_in : Inside 𝓛 full_share T.the_row word.row h h h.count h.count b o (o + max_rows * size)
  unfolding max_rows
  count_in = record { cut = look_at 𝓛 full_share T.the_type T'.the_loose 1 (max_rows * size) refl refl (b, o) h ((T.struct).as_values h) refl }

  pub bridge_look : (i : ℕ) → i < max_rows → Inside 𝓛 full_share T.the_row B.the_row h h (bridge_at h i) (bridge_at h i) b o (offset i o)
  unfolding max_rows
  bridge_look i lt = field-look 𝓛 full_share T.the_row max_rows 0 b o i lt B.the_row tt h h.bridges no_bridge (at_mul (o + 0) size i) (look_at 𝓛 full_share T.the_type T'.the_loose 0 0 refl refl (b, o) h ((T.struct).as_values h) refl)

  pub bridge_put : (i : ℕ) → i < max_rows → (y : Bridge) → Inside 𝓛 full_share T.the_row B.the_row h (with_bridge h i y) (bridge_at h i) y b o (offset i o)
  unfolding max_rows
  bridge_put i lt y =
      field-put 𝓛 full_share T.the_row max_rows 0 b o i lt B.the_row tt h h.bridges no_bridge (at_mul (o + 0) size i) y (with_bridge h i y)
      (put_at_lem 𝓛 full_share T.the_type T'.the_loose 0 0 refl refl (b, o) h (with_bridge h i y) ((T.struct).as_values h) (set h.bridges i y) refl refl)
