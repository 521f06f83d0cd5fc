-- The replies to requests that are answered in parts.
use Rattle.std.proofs.Common.{◌≡◌, ℕ, ◌+◌, ◌<◌, ◌≤◌, zero, suc, All, Option, List, [], ◌∷◌, ◌++◌, take, drop, get_or, length, refl, sym, ap, ◌∙◌, append_assoc, take-append-drop, arith}
use Rattle.std.proofs.KnownBytes.{Appends-trans}
use Rattle.std.proofs.Math.Seq.{take-add}
use Rattle.std.proofs.lemmas.List.{take-take}
use Rattle.std.proofs.lemmas.Option.{slice_get-get_or}
use Rattle.logbook.specs.Pages.{Book}
use Rattle.cspf_model.specs.declared.request.Request.{Request}
use Rattle.cspf_model.specs.Database.{Database}
use Rattle.cspf_publish.specs.AskerStates.{AskerState}
use Rattle.cspf_work.specs.Served.{AreSameAskers}
use Rattle.cspf_serve.specs.BatchRun.{AreReplies}
use Rattle.cspf_judge.specs.EarlyEnds.{HasBegun, Writes}
use Rattle.cspf_serve.proofs.Begun.{begun_behind}

joined : (d : Database) (version : ℕ) (qs ps : List Request) (lines more : List ℕ) → AreReplies d version qs lines
    → AreReplies d version ps more → AreReplies d version (qs ++ ps) (lines ++ more)
joined d version [] ps lines more before after = rw before after
joined d version (q ∷ qs) ps lines more before after = (
  before.0,
  before.1 ++ more,
  before.2,
  ap (λ l. l ++ more) before.3 ∙ append_assoc before.0 before.1 more,
  joined d version qs ps before.1 more before.4 after,
)

-- if the requests before the index `first` are answered, and then the part from `first` to `end`,
-- all requests before `end` are answered
pub part_written : (d : Database) (version : ℕ) (qs : List Request) (first end : ℕ) (old mid new : Option (List ℕ)) → first ≤ end
    → Writes old mid (AreReplies d version (take first qs)) → Writes mid new (AreReplies d version (drop first (take end qs)))
    → Writes old new (AreReplies d version (take end qs))
part_written d version qs first end old mid new up before here =
    let parts : take end qs ≡ take first qs ++ drop first (take end qs) =
    sym (take-append-drop first (take end qs)) ∙ ap (λ l. l ++ drop first (take end qs)) (take-take first end qs up) in (
      before.0 ++ here.0,
      rw parts (joined d version (take first qs) (drop first (take end qs)) before.0 here.0 before.1 here.1),
      Appends-trans old mid new before.0 here.0 before.2 here.2,
    )

-- the first `m` elements of the first `end` elements are a prefix of the whole list
taken_of_taken : {A : Type 0} (m end : ℕ) (xs : List A) → (n : ℕ) × (take n xs ≡ take m (take end xs))
taken_of_taken (suc m) (suc end) (x ∷ xs) =
    let rest = taken_of_taken m end xs in (suc rest.0, ap (λ l. x ∷ l) rest.1)
taken_of_taken m end xs = (zero, refl)

-- the requests before a part, followed by the first `count` requests of the part, are a prefix of
-- all requests
cut_in_part : (qs : List Request) (first count end : ℕ) → first ≤ end → (n : ℕ) × (take n qs ≡ take first qs ++ take count (drop first (take end qs)))
cut_in_part qs first count end up =
    let part = take end qs in
    let cut = taken_of_taken (first + count) end qs in
    (cut.0, cut.1 ∙ take-add first count part ∙ ap (λ l. l ++ take count (drop first part)) (take-take first end qs up))

-- if the requests before a part are answered, and then some first requests of the part, the
-- answered requests are a prefix of all requests
pub part_begun : (d : Database) (version : ℕ) (qs : List Request) (first end : ℕ) (old mid new : Option (List ℕ)) → first ≤ end
    → Writes old mid (AreReplies d version (take first qs))
    → HasBegun mid new (λ lines. (count : ℕ) × AreReplies d version (take count (drop first (take end qs))) lines)
    → HasBegun old new (λ lines. (count : ℕ) × AreReplies d version (take count qs) lines)
part_begun d version qs first end old mid new up before begun =
    begun_behind old mid new before.0 (λ lines. (count : ℕ) × AreReplies d version (take count (drop first (take end qs))) lines)
    (λ lines. (count : ℕ) × AreReplies d version (take count qs) lines) before.2 (first, before.1)
    (λ lines is.
    let cut = cut_in_part qs first is.0 end up in
    (cut.0, rw cut.1 (joined d version (take first qs) (take is.0 (drop first (take end qs))) before.0 lines before.1 is.1))) begun

-- the askers (which answer requests) that are returned are still askers of the same journal (the
-- source is its identity)
pub sources_kept : (source : Book) (before after : List AskerState) → AreSameAskers before after
    → All (λ (a : AskerState). a.source ≡ source) before → All (λ (a : AskerState). a.source ≡ source) after
sources_kept source before after same all i d less =
    let inside : i < length before = omega (arith, less, same.count) in
    let kept = same.each i (get_or before i d) (get_or after i d) (slice_get-get_or before i d inside) (slice_get-get_or after i d less) in
    kept.source ∙ all i d inside
