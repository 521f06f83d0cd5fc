-- `into_session` returns `None` for the null pointer, and otherwise the box at the pointer.
use Rattle.std.proofs.Common.{List, [], ◌∷◌, refl, sym, ap, ◌≡◌, ◌∙◌, lit<}
use Rattle.std.proofs.VecSteps.Shapes.{after}
use denote.RattleType.{RattleType}
use Rattle.std.proofs.raw_atomic.Walks.{proved}
use Rattle.std.specs.declared.option.Option.TheVariants.{None, Some}
use Rattle.std.specs.Box.{box_allocator}
use Rattle.core.proofs.option.Made.{Some-of, none_of}
use Rattle.std_alloc.proofs.ResultValues.{and_tt}
use base.Fml.{ftrue, flft}
use base.Logic.{emp, id⊢}
use base.Fraction.{full_share}
use mir.Val.{Val, vptr, vnil, of_list}
use prog.Wp.{WpFn}
use contract.BorrowLft.{◌⊑◌, ⊑_refl}
use contract.Monad.{fact, fact_i}
use contract.Running.{tables}
use types.Kit.{Item, ‵, raw, prop, at_ret, ◌⊛◌, some, later, ◌$◌, ◌∵◌, !, qed, done, move, keep, drop, use0, use1, split, split3, join, fsplit, fjoin, pick, await, feq_i, regoal, suffices}
use types.Run.{enter, stop, fld, lit, bin, of_opd, no_more, and_then, first, blocks, branches, skips, exec, returns, returns_within}
use types.ByLocal.{alloc_all, pass_all, free_all, look_at, get, get_in, sets, lands_last, env}
use types.Match.{live}
use types.Part.{agg, sub, whole}
use denote.Exit.{yes}
use denote.Laws.{Is, shows}
use denote.RawPtr.{Ptr, block_ptr, null_ptr}
use denote.Signature.{plain, type_at}
use denote.Steps.{nothing, only, peeks, heard}
use denote.Triple.Call.{calls_at_last}
use denote.Triple.Clauses.{Lasts, lasts}
use denote.Triple.Spec.{triple_of}
use denote.Triple.Table.{framed}
use denote.Triple.Walked.{Stays, walk_of, stay_dropped, Goes-dropped, says, ends_at}
use Rattle.cspf_c.proofs.Pointers.{Boxed, Handle, Opened, Memory, box_fits, pointer_typed, handle_word, handle_typed, handle_tells, memory_words, memory_tells, what_is_held}
use Rattle.cspf_c.proofs.Passed.{passed, memory_drop, memory_laws, opened_laws, memory_glue}
use Rattle.cspf_c.specs.contracts.handle.Handle.into_session as f
use Rattle.cspf_c.proofs.handle.Handle.into_session.Statement.{statement}
use Rattle.cspf_c.proofs.handle.Handle.into_session.Code as code
use Rattle.std.specs.contracts.impls.GlobalAllocator.TheImpl.{ghosts, dict}
use Rattle.std.proofs.impls.GlobalAllocator.TheImpl.Met as heap
use Rattle.std_alloc.specs.contracts.boxed.Box.from_raw as g
use Rattle.std_alloc.proofs.boxed.Box.from_raw.Met as met

abbrev stayed : Stays f.ended.signature.params f.ended.kept
stayed = (stay_dropped (plain (λ _. Handle)) yes, (stay_dropped (plain (λ _. Memory)) yes, tt))

pub into_session_spec : {M : Type 1} → statement M
into_session_spec 𝓤 𝓛 𝓜 𝓡 wired =
    let c = f.clauses 𝓛 𝓜.mem 𝓡.returns in let W = walk_of 𝓛 f.ended stayed c in let 𝓣 = tables 𝓤 𝓛.H 𝓜 𝓡 𝓡.env in
    let ended = g.ended (passed Opened) (passed Memory) ghosts dict memory_drop in
    let G = triple_of 𝓛 (g.signature (passed Opened) (passed Memory) ghosts dict memory_drop) (g.spec (passed Opened) (passed Memory) ghosts dict memory_drop 𝓛 𝓜.mem 𝓡.returns) in
    proved 𝓛 f.ended stayed c 𝓜 𝓡 (Goes-dropped 𝓛 0 (plain (λ _. Handle)) yes (λ κs x w. refl), (Goes-dropped 𝓛 0 (plain (λ _. Memory)) yes (λ κs x w. refl), tt))
    f.Key.name code.function (code.unfolded 𝓤 𝓛.H 𝓜 𝓡 wired) (λ κs. ((λ h. handle_word h.at ∷ []), (memory_words, tt))) (λ κs. (handle_tells, (memory_tells, tt))) (λ κs qs bounds a _ are.
    let h = a.0 in let m = a.1.0 in let w = only (memory_words m) in
    let y : Ptr → W.Ghost = λ p. ((κs, qs, bounds, a, (handle_word p ∷ [], (w ∷ [], tt))), tt) in
    let Out : RattleType = type_at f.ended.signature.result κs in
    let tokens : Item 𝓤 = ‵ (flft [] full_share) ⊛ ‵ (flft [] full_share) ⊛ ‵ ftrue in
    qed 𝓛 ((‵ ftrue ⊛ ‵ (Handle.own_val h (handle_word h.at ∷ [])) ⊛ ‵ (Memory.own_val m (w ∷ [])) ⊛ ‵ ftrue) ∷ ‵ ftrue ∷ []) ∵ split ! $ drop ! $ split3 ! $ fsplit ! $ drop ! $
    what_is_held ! h.at h.value
    (λ none at. regoal ! (λ (p : Ptr). prop (WpFn 𝓤 𝓛.H 𝓣.C 𝓣.Λ code.function (handle_word p ∷ w ∷ []) (W.post (y p)))) at refl $
    enter ! _ _ _ _ _ $ alloc_all ! (λ l. pass_all ! refl (handle_typed null_ptr, ((tt, ((tt, tt), tt)), tt)) $
    sets ! (of_opd ! (get_in ! (fld ! refl (stop !)) (sub ! 0 refl (whole !)))) refl (pointer_typed null_ptr) $ sets ! (of_opd ! (get ! refl)) refl (pointer_typed null_ptr) $
    sets ! (bin ! (get ! refl) (lit ! tt) tt) refl (tt, tt) $ first ! $
    branches ! (get ! refl) (λ _. sets ! (agg ! (and_then ! (lit ! tt) (no_more !))) refl (tt, (record { fits = lit< tt }, tt)) $
    returns_within ! (W.post (y null_ptr)) refl (look_at ! 0 refl) $ free_all ! refl $ keep ! [] $
    suffices ! _ (ends_at 𝓛 f.ended stayed c (y null_ptr) (live 0 vnil) None (tt, (tt, tt)) (tt, (tt, tt))) $ says ! none $
    use0 𝓛 (‵ (Out.own_val None (live 0 vnil ∷ []))) (none_of 𝓛 Boxed) $ nothing ! $ nothing ! $ join ! $ nothing ! $ join ! $ nothing ! $ done !)
    (λ wrong. absurd wrong)))
    (λ x b held at. regoal ! (λ (p : Ptr). prop (WpFn 𝓤 𝓛.H 𝓣.C 𝓣.Λ code.function (handle_word p ∷ w ∷ []) (W.post (y p)))) at refl $
    let p = block_ptr b 0 in
    let z : G.Ghost = ((([], ([], tt)), (full_share, (full_share, tt)), tt, (m, (p, tt)), (w ∷ [], (vptr b 0 ∷ [], tt))), x) in
    move ! (2 ∷ []) $ feq_i ! (List Val) (vptr b 0 ∷ []) (vptr b 0 ∷ []) refl $ fjoin ! $ move ! (2 ∷ 0 ∷ []) $ fjoin ! $
    nothing ! $ use0 𝓛 (‵ (flft [] full_share)) (𝓛.lfts.lft-nil full_share) $ join ! $ use0 𝓛 (‵ (flft [] full_share)) (𝓛.lfts.lft-nil full_share) $ join ! $ join ! $
    move ! (1 ∷ []) $ use0 𝓛 (raw (fact 𝓤 ([] ⊑ []))) (fact_i 𝓤 ([] ⊑ []) (emp 𝓤) (⊑_refl [])) $ join ! $
    use0 𝓛 (raw (fact 𝓤 ([] ⊑ []))) (fact_i 𝓤 ([] ⊑ []) (emp 𝓤) (⊑_refl [])) $ join ! $
    move ! (1 ∷ []) $ join ! $ use1 𝓛 (raw (G.pre z)) (id⊢ 𝓤 _) $
    enter ! _ _ _ _ _ $ alloc_all ! (λ l. let E = env (code.function).locals l in pass_all ! refl (handle_typed p, ((tt, ((tt, tt), tt)), tt)) $
    sets ! (of_opd ! (get_in ! (fld ! refl (stop !)) (sub ! 0 refl (whole !)))) refl (pointer_typed p) $ sets ! (of_opd ! (get ! refl)) refl (pointer_typed p) $
    sets ! (bin ! (get ! refl) (lit ! tt) tt) refl (tt, tt) $ first ! $
    branches ! (get ! refl) (λ wrong. absurd wrong)
    (λ _. skips ! $ exec ! 𝓣.C 𝓣.Λ E code.Mir.t-5 (at_ret E (W.post (y p))) $ first ! $ blocks ! $
    sets ! (of_opd ! (get ! refl)) refl (tt, ((tt, tt), tt)) $ sets ! (of_opd ! (get ! refl)) refl (pointer_typed p) $ sets ! (of_opd ! (get ! refl)) refl (pointer_typed p) $
    calls_at_last ! (framed 𝓤 𝓛.H 𝓜 𝓣) G
    (met.met 𝓤 𝓛 𝓜 𝓡 (code.calls-std_alloc::boxed::Box::from_raw 𝓡.env wired) (passed Opened) (passed Memory) opened_laws memory_laws ghosts dict memory_drop
    (heap.passed 𝓡.env (code.calls-std_heap::GlobalAllocator::allocate 𝓡.env wired) (code.calls-std_heap::GlobalAllocator::deallocate 𝓡.env wired)
    (code.calls-std_heap::GlobalAllocator::grow 𝓡.env wired) (code.calls-std_heap::GlobalAllocator::shrink 𝓡.env wired) _ 𝓤 𝓛 𝓜 𝓡)
    (memory_glue 𝓤 𝓛 𝓜 𝓡 (code.calls-cspf_c::Destruct++none::drop 𝓡.env wired))) z
    (and_then ! (get ! refl) (and_then ! (get ! refl) (no_more !))) (λ u.
    use1 𝓛 (later (some (λ (r : Boxed.Denot). (tokens ⊛ ‵ (Boxed.own_val r (u ∷ []))) ⊛
    some (λ (ws : Lasts ended z.0.0 z.0.3). ‵ (lasts ended z.0.0 z.0.3 ws) ⊛ raw (fact 𝓤 (r.value ≡ x)) ⊛ raw (fact 𝓤 (box_allocator r ≡ m)))))) (id⊢ 𝓤 _) $
    await ! tt $ pick ! (λ r. split ! $ split ! $ drop ! $ move ! (1 ∷ []) $ pick ! (λ ws. split3 ! $ drop ! $ heard ! _ (λ same. drop ! $
    peeks ! Boxed (Is Boxed) (shows 𝓛 Boxed) r (u ∷ []) (λ is. let fits = ((box_fits 𝓛).typed r (u ∷ []) is).0 in
    lands_last ! refl fits $ exec ! 𝓣.C 𝓣.Λ E (after 5 (code.function).body) (at_ret E (W.post (y p))) $
    sets ! (of_opd ! (get ! refl)) refl fits $ sets ! (agg ! (and_then ! (lit ! tt) (and_then ! (get ! refl) (no_more !)))) refl (and_tt _ fits.0, (record { fits = lit< tt }, (fits.1, tt))) $
    returns ! (look_at ! 0 refl) $ free_all ! refl $ keep ! (0 ∷ []) $
    use1 𝓛 (‵ (Out.own_val (Some r) (live 1 (of_list (u ∷ [])) ∷ []))) (Some-of 𝓛 Boxed r u) $
    suffices ! _ (ends_at 𝓛 f.ended stayed c (y p) (live 1 (of_list (u ∷ []))) (Some r) (tt, (tt, tt)) (tt, (tt, tt))) $ says ! (held ∙ ap Some (sym same)) $
    nothing ! $ nothing ! $ join ! $ nothing ! $ join ! $ nothing ! $ done !)))))))))
