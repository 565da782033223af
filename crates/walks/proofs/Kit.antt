-- The words of the toolchain's program logic that walks are written in, gathered here so that each file names them in one line.
-- the MIR, and its values
pub use mir.Syntax.{Body as Code, Callee, Fn, Lifetime, Local, Opd as Operand, Place, Ty, Width, Written, addr_of, aggregate, assign, block, call, cond, copy, deref, eq, erased, exit, field, imm, int, local, loop, mul, mut, named, offset, op2, place, return, rv_opd, seq, skip, switch, ty_bool, ty_int, ty_ptr, ty_ref, unsigned, value_local, w32, w64, w8}
pub use mir.Val.{Fits, Val, WT, has_ty, of_list, vbool, vint, vptr, vstruct}
-- assertions, and what they are about
pub use seplogic.Ra.Ura.{Ura}
pub use base.Fraction.{full_share}
pub use base.Logic.{SProp, apply∗, assoc', assoc∗, comm∗, emp, emp∗, ent, ex, fst∗, id⊢, mono_l, mono_r, mono∗, sep, via, wand, wand_i}
pub use base.Fml.{Fml, GName, Lft, Share, fat, fauth, fbor, fdies, flent, flft, fobor, fobs, fres, froom, fsep, ftrue}
pub use ghost.Atoms.{Atoms}
pub use types.Logic.{Logic, sem}
pub use prog.Wp.{Calls, Closed as Entry, Env, Heap, Loops, Out, Spot, Tables, Wp, WpFn, after_block, after_seq, at_return, no_local, walk}
pub use prog.Memory.{Memory, field_of}
pub use prog.Routine.{Env as Routines, Routine}
pub use prog.Model.{Model}
-- the calculus of a walk, and its steps
pub use types.Kit.{ !, ++⊢, Go, Goal, Item, Post, Seq, Soaks, Sq, Step, ◌$◌, ◌∵◌, ◌⊛◌, allocs, any_q, assume, at_ret, await, by, del, done, drop, feq_i, feq_l, fjoin, fpack, fpick, frame, frees, fsplit, fsplit3, join, keep, lands, later, mean, move, now, nth, params', passes, pick, pop, post, prop, pull, push, qed, raw, rewrite, runs, settles, show, some, split, suffices, unpull, updating, use0, use1, use2, ‵, ⊢++, ⋆}
pub use types.Run.{Below, Finds, Opd, Opds, Reads, Walks, addr, again, alloc0, alloc1, and_then, assigns, assigns_last, bin, blocks, branches, enter, exec, false_lit, first, fld, forget, free0, free1, from, hop, init, jumps, land, land_last, lit, load, look, look_raw, loops, no_more, of_opd, params1, pass0, pass1, returns, returns_within, skips, stop, store, store_raw, true_lit, un}
pub use types.Part.{agg, look_in, rep, store_in, sub, whole}
pub use types.Share.{arr_parts}
pub use types.SemTy.{Body, cells}
pub use sound.WpLaws.{FmC, fm_of}
-- types
pub use denote.RattleType.{Denots, RattleType, Valss, flat, owns}
pub use denote.Laws.{Are, Is, Ises, Lawful, Makes, Spells, Tells, Tellss, shows, valss}
pub use denote.Memory.{cell_at, lone, mem, part_at, pointee, shares}
pub use denote.Builtin.{u8, u32}
pub use denote.Bor.{Bor}
pub use denote.MutBor.{MutBor}
pub use denote.Ref.{MutRef, NamedLft, mut_Tells, shr_vals, mut_vals}
pub use denote.Slice.{MutSlice, Room, ShrSlice, mut_slice_Lawful, mut_slice_Tells, shr_slice_copy, shr_slice_Lawful, shr_slice_Tells, shr_slice_vals, mut_slice_vals, slice_ty, slice_val}
pub use denote.Array.{Array, Array-Lawful, Array-Makes, Array-Tells, array_vals, each}
pub use denote.Exit.{Exit, Last, left, unchanged, yes}
pub use denote.Signature.{Signature, Slot, mut_ref_to, named_lft, plain, shr_slice_of, type_at, types_at}
pub use denote.Steps.{facts, heard, nothing, only, owned, peeks, said}
-- contracts
pub use contract.Monad.{Fun}
pub use contract.Fact.{fact, fact_use, fact_i}
pub use contract.Conj.{top}
pub use contract.Lifetimes.{AllOutlive, Lfts, Shares, Within, lft_at, toks}
pub use contract.Running.{Running, tables}
pub use denote.Triple.Statement.{Contract, Triple}
pub use denote.Triple.Clauses.{Clauses, Ended, Lasts, at_exit, closing, ensured, lasts}
pub use denote.Triple.End.{Fins, all, lasts_of}
pub use denote.Triple.Entry.{Args, Res, Vals, alive, on_entry}
pub use denote.Triple.Call.{calls_at, calls_at_last, calls_from}
