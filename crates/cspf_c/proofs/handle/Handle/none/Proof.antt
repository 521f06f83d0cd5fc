-- `none` makes a handle without a session. Its pointer is null.
use Rattle.std.proofs.Common.{[], ◌∷◌, refl}
use Rattle.std.proofs.raw_atomic.Walks.{proved}
use Rattle.std.specs.declared.option.Option.TheVariants.{None}
use types.Kit.{‵, raw, ◌$◌, ◌∵◌, !, qed, done, drop, suffices, feq_i}
use types.Run.{enter, lit, no_more, and_then, returns}
use types.ByLocal.{alloc_all, pass_all, free_all, look_at, sets}
use types.Part.{agg}
use base.Fml.{ftrue}
use denote.RawPtr.{Ptr, null_ptr}
use denote.Steps.{nothing}
use denote.Triple.Entry.{on_entry}
use denote.Triple.Walked.{walk_of, says, ends_at}
use Rattle.cspf_c.proofs.Pointers.{handle_word, handle_typed, handle_of}
use Rattle.cspf_c.specs.contracts.handle.Handle.none as f
use Rattle.cspf_c.proofs.handle.Handle.none.Statement.{statement}
use Rattle.cspf_c.proofs.handle.Handle.none.Code as code

pub none_spec : {M : Type 1} → statement M
none_spec 𝓤 𝓛 𝓜 𝓡 wired =
    let c = f.clauses 𝓛 𝓜.mem 𝓡.returns in let W = walk_of 𝓛 f.ended tt c in
    proved 𝓛 f.ended tt c 𝓜 𝓡 tt f.Key.name code.function (code.unfolded 𝓤 𝓛.H 𝓜 𝓡 wired) (λ κs. tt) (λ κs. tt) (λ κs qs bounds a _ are.
    let y : W.Ghost = ((κs, qs, bounds, a, tt), tt) in
    qed 𝓛 (raw (on_entry 𝓛 f.signature κs qs a tt) ∷ ‵ ftrue ∷ []) ∵ drop ! $ drop ! $
    enter ! _ _ _ _ _ $ alloc_all ! (λ l. pass_all ! refl tt $
    sets ! (agg ! (and_then ! (lit ! tt) (no_more !))) refl (handle_typed null_ptr) $ returns ! (look_at ! 0 refl) $ free_all ! refl $
    suffices ! _ (ends_at 𝓛 f.ended tt c y (handle_word null_ptr) (record { at = null_ptr; value = None }) tt tt) $ says ! refl $
    feq_i ! Ptr null_ptr null_ptr refl $ handle_of ! null_ptr None $ nothing ! $ nothing ! $ done !))
