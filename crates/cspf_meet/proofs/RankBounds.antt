-- Lemmas on lower bounds of ranks.
use Rattle.std.proofs.Common.{◌≡◌, inl, inr, ℕ, ◌+◌, ◌-◌, ◌<◌, ◌≤◌, min, List, ap, arith}
use Rattle.cspf_model.specs.declared.request.Request.{Request}
use Rattle.cspf_model.specs.Database.{Database}
use Rattle.cspf_graph.specs.Lists.{AreListed, IsIndexOf}
use Rattle.cspf_graph.proofs.RouterIndexes.{one_place}
use Rattle.cspf_meet.specs.declared.bounds.HeadBounds.{HeadBounds}
use Rattle.cspf_meet.specs.declared.labels.Labels.{Labels}
use Rattle.cspf_meet.specs.Bounds.{AreHeadBounds, head_bound}
use Rattle.cspf_meet.specs.Corridors.{NoneNeedsLook}
use Rattle.cspf_meet.specs.Labels.{IsWaiting, rank_at}
use Rattle.cspf_meet.specs.Looks.{AreLookedAt}
use Rattle.cspf_walk.specs.Ways.{IsRankBound, Leads}

module _ (d : Database) (q : Request) (listed : AreListed d) where
  -- The labels of the search from the head-end give bounds that are consistent. The edge must be at
  -- most one more than the rank of each router that waits.
  pub heads_of : (labels : Labels) (ahead : List ℕ) (edge most : ℕ) → ahead ≡ labels.ranks.items → edge ≤ most → AreLookedAt (Leads d q) labels most
      → ((v : ℕ) → v < 1024 → IsWaiting labels v → edge ≤ rank_at labels.ranks.items v + 1)
      → (u w step : ℕ) → Leads d q u w step → min (rank_at ahead w) edge ≤ min (rank_at ahead u) edge + step
  heads_of labels ahead edge most same below looked low_edge u w step leads =
      let low : u < 1024 = omega (arith, leads.from.within, listed.few) in
      let some : 1 ≤ step = omega (arith, leads.same) in
      let here : rank_at ahead u ≡ rank_at labels.ranks.items u = ap (λ rs. rank_at rs u) same in
      let there : rank_at ahead w ≡ rank_at labels.ranks.items w = ap (λ rs. rank_at rs w) same in
      elim (looked u low) [
        | inl passed ↦ elim (passed w step leads) [
          | inl h ↦ omega (arith, h.low, here, there)
          | inr h ↦ omega (arith, h.high, here, there, below)
        ]
        | inr waits ↦ omega (arith, low_edge u low waits, some, here, there)
      ]

  -- The bounds to the tail-end are lower bounds, if each router of the corridor needs no further
  -- look.
  pub bound_of : (head : HeadBounds) (near : List ℕ) → AreHeadBounds d q head → NoneNeedsLook d q head near → (to : ℕ) → IsIndexOf d q.to to → rank_at near to ≡ 0
      → IsRankBound d q (λ v. min (rank_at near v) ((head.most + 1) - head_bound head v))
  bound_of head near heads past to end zero = record {
    links = λ u w step leads.
        let low : w < 1024 = omega (arith, leads.to.within, listed.few) in
        let up = heads u w step leads in
        elim (past w low) [
          | inl looked ↦ elim (looked u step leads) [
            | inl h ↦ omega (arith, h, up)
            | inr h ↦ omega (arith, h, up)
          ]
          | inr beyond ↦ omega (arith, beyond, up)
        ];
    end = λ place at.
        let here : place ≡ to = one_place d listed q.to place to at end in
        rw here (omega (arith, zero));
  }
