-- If one of the two searches has found all routers that it can reach, and the other end isn't one of
-- them, there is no route.
use Rattle.std.proofs.Common.{◌≡◌, inl, inr, ℕ, ◌<◌, ◌≤◌, List, [], ◌∷◌, refl, sym, ap, subst, arith}
use Rattle.cspf_model.specs.declared.link.Link.{Link}
use Rattle.cspf_model.specs.declared.request.Request.{Request}
use Rattle.cspf_model.specs.Database.{Database}
use Rattle.cspf_graph.specs.Lists.{AreListed, IsIndexOf}
use Rattle.cspf_graph.proofs.RouterIndexes.{one_place}
use Rattle.cspf_meet.specs.declared.labels.Labels.{Labels}
use Rattle.cspf_meet.specs.Labels.{rank_at}
use Rattle.cspf_meet.specs.Looks.{AreLookedAt, HasNoneWaiting, LeadsBack}
use Rattle.cspf_walk.specs.TightWalks.{IsWayToEnd}
use Rattle.cspf_walk.specs.Ways.{IsWayLink, Leads, link_step}
use Rattle.cspf_walk.proofs.ShorterWays.{rest_of}
use Rattle.cspf_walk.proofs.TightWalks.{to_place}

module _ (d : Database) (q : Request) (listed : AreListed d) (labels : Labels) (most : ℕ) (unmet : 9007199254740992 ≤ most) (done : HasNoneWaiting labels) where
  leads_on : (l : Link) → IsWayLink d q l → (u w : ℕ) → IsIndexOf d l.from u → IsIndexOf d l.to w → Leads d q u w (link_step l)
  leads_on l way u w from to = record { link = l; is = way; from = from; to = to; same = refl }

  -- The search from the head-end has a rank for each router to which a way leads.
  pub ahead_found : AreLookedAt (Leads d q) labels most → (router place : ℕ) → IsIndexOf d router place → rank_at labels.ranks.items place < 9007199254740992 → (links : List Link) → IsWayToEnd d q router links
      → (to : ℕ) → IsIndexOf d q.to to → rank_at labels.ranks.items to < 9007199254740992
  ahead_found looked router place at far [] way to end =
      let here : place ≡ to = one_place d listed q.to place to (subst (λ r. IsIndexOf d r place) way.end at) end in
      omega (arith, far, ap (rank_at labels.ranks.items) here)
  ahead_found looked router place at far (l ∷ links) way to end =
      let on = to_place d q listed l way.links.0.admissible in
      let from : IsIndexOf d l.from place = subst (λ r. IsIndexOf d r place) (sym way.joined.0) at in
      let low : place < 1024 = omega (arith, at.within, listed.few) in
      elim (looked place low) [
        | inl passed ↦ elim (passed on.0 (link_step l) (leads_on l way.links.0 place on.0 from on.1)) [
          | inl known ↦ ahead_found looked l.to on.0 on.1 (known.some far) links (rest_of d q router l links way) to end
          | inr beyond ↦ absurd (omega (arith, beyond.met, unmet))
        ]
        | inr waits ↦ absurd (done place waits)
      ]

  -- The search from the tail-end has a rank for each router from which a way leads there.
  pub back_found : AreLookedAt (LeadsBack d q) labels most → (to : ℕ) → IsIndexOf d q.to to → rank_at labels.ranks.items to ≡ 0 → (links : List Link) (router place : ℕ) → IsIndexOf d router place → IsWayToEnd d q router links
      → rank_at labels.ranks.items place < 9007199254740992
  back_found looked to end zero [] router place at way =
      let here : place ≡ to = one_place d listed q.to place to (subst (λ r. IsIndexOf d r place) way.end at) end in
      omega (arith, zero, ap (rank_at labels.ranks.items) here)
  back_found looked to end zero (l ∷ links) router place at way =
      let on = to_place d q listed l way.links.0.admissible in
      let from : IsIndexOf d l.from place = subst (λ r. IsIndexOf d r place) (sym way.joined.0) at in
      let low : on.0 < 1024 = omega (arith, on.1.within, listed.few) in
      let far = back_found looked to end zero links l.to on.0 on.1 (rest_of d q router l links way) in
      elim (looked on.0 low) [
        | inl passed ↦ elim (passed place (link_step l) (leads_on l way.links.0 place on.0 from on.1)) [
          | inl known ↦ known.some far
          | inr beyond ↦ absurd (omega (arith, beyond.met, unmet))
        ]
        | inr waits ↦ absurd (done on.0 waits)
      ]
