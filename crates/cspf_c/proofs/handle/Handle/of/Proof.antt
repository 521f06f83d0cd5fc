-- `of` makes a handle of a box: the handle has the pointer and the session of the box.
use Rattle.std.proofs.Common.{[], ◌∷◌, refl, ap}
use Rattle.std.proofs.raw_atomic.Walks.{proved}
use Rattle.std.specs.declared.option.Option.TheVariants.{Some}
use Rattle.std.specs.Box.Ownership.{box_owns}
use base.Fml.{ftrue, flft}
use base.Logic.{emp, id⊢}
use base.Fraction.{full_share}
use contract.BorrowLft.{◌⊑◌, ⊑_refl}
use contract.Monad.{fact, fact_i}
use contract.Running.{tables}
use types.Kit.{Item, ‵, raw, ◌⊛◌, some, later, ◌$◌, ◌∵◌, !, qed, done, move, drop, use0, use1, split, split3, join, fjoin, pick, await, feq_l, suffices}
use types.Run.{enter, of_opd, no_more, and_then, returns}
use types.ByLocal.{alloc_all, pass_all, free_all, look_at, get, sets, lands_as}
use types.Part.{agg}
use denote.Exit.{yes}
use denote.RawPtr.{Ptr, RawPtr}
use denote.Signature.{plain}
use denote.Steps.{nothing, only}
use denote.Triple.Call.{calls_at}
use denote.Triple.Clauses.{Lasts, lasts}
use denote.Triple.Spec.{triple_of}
use denote.Triple.Table.{framed}
use denote.Triple.Walked.{Stays, walk_of, stay_dropped, Goes-dropped, says, ends_at}
use Rattle.cspf_c.proofs.Pointers.{Boxed, Opened, Memory, box_words, box_tells, box_typed, pointer_typed, handle_word, handle_typed, handle_of}
use Rattle.cspf_c.specs.Holding.{may_free}
use Rattle.cspf_c.specs.contracts.handle.Handle.of as f
use Rattle.cspf_c.proofs.handle.Handle.of.Statement.{statement}
use Rattle.cspf_c.proofs.handle.Handle.of.Code as code
use Rattle.std.specs.contracts.impls.GlobalAllocator.TheImpl.{ghosts, dict}
use Rattle.std_alloc.specs.contracts.boxed.Box.into_raw as g
use Rattle.std_alloc.proofs.boxed.Box.into_raw.Met as met
use Rattle.cspf_c.proofs.Passed.{passed, memory_drop, opened_drop, memory_laws, opened_laws, opened_glue, memory_glue}
use Rattle.std.proofs.impls.GlobalAllocator.TheImpl.Met as heap

abbrev stayed : Stays f.ended.signature.params f.ended.kept
stayed = (stay_dropped (plain (λ _. Boxed)) yes, tt)

pub of_spec : {M : Type 1} → statement M
of_spec 𝓤 𝓛 𝓜 𝓡 wired =
    let c = f.clauses 𝓛 𝓜.mem 𝓡.returns in let W = walk_of 𝓛 f.ended stayed c in
    let ended = g.ended (passed Opened) (passed Memory) ghosts dict memory_drop opened_drop in
    let G = triple_of 𝓛 (g.signature (passed Opened) (passed Memory) ghosts dict memory_drop opened_drop) (g.spec (passed Opened) (passed Memory) ghosts dict memory_drop opened_drop 𝓛 𝓜.mem 𝓡.returns) in
    proved 𝓛 f.ended stayed c 𝓜 𝓡 (Goes-dropped 𝓛 0 (plain (λ _. Boxed)) yes (λ κs x w. refl), tt)
    f.Key.name code.function (code.unfolded 𝓤 𝓛.H 𝓜 𝓡 wired) (λ κs. (box_words, tt)) (λ κs. (box_tells, tt)) (λ κs qs bounds a _ are.
    let b = a.0 in let y : W.Ghost = ((κs, qs, bounds, a, (box_words b, tt)), tt) in
    let z : G.Ghost = ((([], ([], tt)), (full_share, (full_share, tt)), tt, a, (box_words b, tt)), tt) in
    let tokens : Item 𝓤 = ‵ (flft [] full_share) ⊛ ‵ (flft [] full_share) ⊛ ‵ ftrue in
    qed 𝓛 ((‵ ftrue ⊛ ‵ (Boxed.own_val b (box_words b)) ⊛ ‵ ftrue) ∷ ‵ ftrue ∷ []) ∵ split3 ! $ drop ! $ fjoin ! $
    nothing ! $ use0 𝓛 (‵ (flft [] full_share)) (𝓛.lfts.lft-nil full_share) $ join ! $ use0 𝓛 (‵ (flft [] full_share)) (𝓛.lfts.lft-nil full_share) $ join ! $ join ! $
    move ! (1 ∷ []) $ use0 𝓛 (raw (fact 𝓤 ([] ⊑ []))) (fact_i 𝓤 ([] ⊑ []) (emp 𝓤) (⊑_refl [])) $ join ! $
    use0 𝓛 (raw (fact 𝓤 ([] ⊑ []))) (fact_i 𝓤 ([] ⊑ []) (emp 𝓤) (⊑_refl [])) $ join ! $
    move ! (1 ∷ []) $ join ! $ use1 𝓛 (raw (G.pre z)) (id⊢ 𝓤 _) $
    -- at this step of the proof there are two assumptions: the argument of `into_raw`, and the
    -- local variables of `of`
    enter ! _ _ _ _ _ $ alloc_all ! (λ l. pass_all ! refl (box_typed b.ptr, tt) $
    sets ! (of_opd ! (get ! refl)) refl (box_typed b.ptr) $
    calls_at ! (framed 𝓤 𝓛.H 𝓜 (tables 𝓤 𝓛.H 𝓜 𝓡 𝓡.env)) G
    (met.met 𝓤 𝓛 𝓜 𝓡 (code.calls-std_alloc::boxed::Box::into_raw 𝓡.env wired) (passed Opened) (passed Memory) opened_laws memory_laws ghosts dict memory_drop opened_drop
    (heap.passed 𝓡.env (code.calls-std_heap::GlobalAllocator::allocate 𝓡.env wired) (code.calls-std_heap::GlobalAllocator::deallocate 𝓡.env wired)
    (code.calls-std_heap::GlobalAllocator::grow 𝓡.env wired) (code.calls-std_heap::GlobalAllocator::shrink 𝓡.env wired) _ 𝓤 𝓛 𝓜 𝓡)
    (memory_glue 𝓤 𝓛 𝓜 𝓡 (code.calls-cspf_c::Destruct++none::drop 𝓡.env wired))
    (opened_glue 𝓤 𝓛 𝓜 𝓡 (code.calls-cspf_c::cspf_c++opened++Opened+Destruct::drop 𝓡.env wired))) z
    (and_then ! (get ! refl) (no_more !)) (λ u.
    use1 𝓛 (later (some (λ (p : Ptr). (tokens ⊛ ‵ (RawPtr.own_val p (u ∷ []))) ⊛
    some (λ (ws : Lasts ended z.0.0 a). ‵ (lasts ended z.0.0 a ws) ⊛ ‵ (box_owns may_free Opened p b.value))))) (id⊢ 𝓤 _) $
    await ! tt $ pick ! (λ p. split ! $ split ! $ drop ! $ feq_l ! (λ is. pick ! (λ ws. split ! $ drop ! $
    lands_as ! (ap only is) refl (pointer_typed p) $
    sets ! (of_opd ! (get ! refl)) refl (pointer_typed p) $
    sets ! (agg ! (and_then ! (get ! refl) (no_more !))) refl (handle_typed p) $
    returns ! (look_at ! 0 refl) $ free_all ! refl $
    suffices ! _ (ends_at 𝓛 f.ended stayed c y (handle_word p) (record { at = p; value = Some b.value }) (tt, tt) (tt, tt)) $ says ! refl $
    handle_of ! p (Some b.value) $ nothing ! $ nothing ! $ join ! $ nothing ! $ done !))))))
