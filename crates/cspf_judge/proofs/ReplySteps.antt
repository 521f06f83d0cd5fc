-- One more line of the replies is read: the changes of the findings, the claims and the list of the
-- requests with a line.
use Rattle.std.proofs.Common.{◌≡◌, ◌≢◌, ℕ, ◌+◌, suc, zero, Bool, true, false, List, [], ◌∷◌, ◌++◌, Contains, Some, None, length, inl, inr, refl, sym, ap, subst, ◌∙◌, append-nil, arith}
use Rattle.std.proofs.lemmas.Bool.{cases_eq}
use Rattle.std.proofs.lemmas.List.{take_at, length-set}
use Rattle.std.proofs.lemmas.List.Elements.{Contains-append_right, Contains-append_cases}
use Rattle.std.proofs.lemmas.Option.{slice_get_within}
use Rattle.std.specs.BTreeMap.{BTreeMap, get}
use Rattle.std.specs.List.{slice_get, slice_set}
use Rattle.std.specs.Ordering.{nat_cmp}
use Rattle.cspf_model.specs.Numbered.{NumberedChanges}
use Rattle.cspf_ero.specs.declared.head.Head.{Head}
use Rattle.cspf_judge.specs.declared.audits.claim.Claim.{Claim}
use Rattle.cspf_judge.specs.declared.audits.finding.Finding.{Finding}
use Rattle.cspf_judge.specs.declared.audits.finding.Finding.TheVariants as finding
use Rattle.cspf_judge.specs.declared.audits.replies.ReplyFindings.{ReplyFindings}
use Rattle.cspf_judge.specs.declared.audits.replies.Reading.TheVariants as reading
use Rattle.cspf_judge.specs.Asks.{AskSpec, HasOneBeginning}
use Rattle.cspf_judge.specs.Requests.{HaveOwnIdsBy, IsAskedBy}
use Rattle.cspf_judge.specs.Reading.{place_of, ArePlaces, IsClaim, AreClaims, AreOpenFindings, AreNamed, HasReadLines, IsReading}
use Rattle.cspf_judge.specs.Findings.{IsNeverSkipped, IsNamedBy, IsFirstReplyBy, IsFindingBy}
use Rattle.cspf_judge.proofs.IdPlaces.{lack_id, lack_one, place_found, own_place, read_there}
use Rattle.cspf_judge.proofs.Lookups.{one_element, get-set_same, get-set_other}
use Rattle.cspf_judge.proofs.ReadingSteps.{claim_more, found_more, named_cases, named_before, named_last}

get_last : {A : Type 0} (xs : List A) (x : A) → slice_get (xs ++ x ∷ []) (length xs) ≡ Some x
get_last [] x = refl
get_last (y ∷ xs) x = get_last xs x

module _ {A : Type 0} (spec : AskSpec A) where
  module _ (one : HasOneBeginning spec) (none_skipped : IsNeverSkipped spec) (batches : List NumberedChanges) (requests : List A) (own : HaveOwnIdsBy spec.id requests)
      (ids : BTreeMap ℕ ℕ) (places : ArePlaces spec.id ids requests)
      (seen : List (List ℕ)) (line : List ℕ) (before : List Bool) (named : AreNamed spec requests seen before) where
    -- ---- the request that has the id of the line

    same_id : (id version other more : ℕ) → spec.begins line (record { id = id; version = version }) → spec.begins line (record { id = other; version = more }) → id ≡ other
    same_id id version other more a b = ap (λ (head : Head). head.id) (one line (record { id = id; version = version }) (record { id = other; version = more }) a b)

    -- if `ids` maps an id to an index, the request at this index has the id
    found_at : (id index : ℕ) → get nat_cmp ids id ≡ Some index → (q : A) × (slice_get requests index ≡ Some q) × (spec.id q ≡ id)
    found_at id index is =
        let there = place_found spec.id 0 id requests index (sym (places id) ∙ is) in
        (there.1, subst (λ k. slice_get requests k ≡ Some there.1) (omega (arith, there.2)) there.3, there.4)

    -- if `ids` maps an id to an index, no request at another index has the id
    only_at : (id index : ℕ) → get nat_cmp ids id ≡ Some index → (other : ℕ) (q : A) → slice_get requests other ≡ Some q → spec.id q ≡ id → other ≡ index
    only_at id index is other q there same =
        let found : Some (0 + other) ≡ Some index = sym (own_place spec.id 0 other requests q own there) ∙ ap (λ i. place_of spec.id i requests) same ∙ sym (places id) ∙ is in
        let at : 0 + other ≡ index = cc in
        omega (arith, at)

    not_asked : (id : ℕ) → get nat_cmp ids id ≡ None → ¬ IsAskedBy spec.id requests id
    not_asked id absent (q, there, same) = lack_one spec.id id requests q (lack_id spec.id 0 id requests (sym (places id) ∙ absent)) there same

    was_named : (index : ℕ) (q : A) → slice_get requests index ≡ Some q → slice_get before index ≡ Some true → IsNamedBy spec seen (spec.id q)
    was_named index q there is = (named.each index q there).0 is

    wasnt_named : (index : ℕ) (q : A) → slice_get requests index ≡ Some q → slice_get before index ≡ Some false → ¬ IsNamedBy spec seen (spec.id q)
    wasnt_named index q there is now = let no : Some true ≡ Some false = sym ((named.each index q there).1 now) ∙ is in cc

    -- ---- the list of the requests that have a line, after this line was read

    -- the list of the requests that have a line stays the same if no request has the id of this line
    named_none : ((q : A) (version : ℕ) → Contains requests q → ¬ spec.begins line (record { id = spec.id q; version = version })) → AreNamed spec requests (seen ++ line ∷ []) before
    named_none none = record {
      counted = named.counted;
      each = λ index q there. (
        λ is. named_before spec seen line (spec.id q) ((named.each index q there).0 is),
        λ now. elim (named_cases spec seen line (spec.id q) now) [
          | inl earlier ↦ (named.each index q there).1 earlier
          | inr here ↦ absurd (none q here.0 (read_there requests index q there) here.1)
        ],
      );
    }

    module _ (id version index : ℕ) (begins : spec.begins line (record { id = id; version = version })) (is_at : get nat_cmp ids id ≡ Some index) where
      -- The line has the id of the request at `index`. If `after` is the list `before` with `true`
      -- set at this index, `after` says which requests now have a line.
      named_at : (after : List Bool) → length after ≡ length before → slice_get after index ≡ Some true → ((other : ℕ) → other ≢ index → slice_get after other ≡ slice_get before other)
          → AreNamed spec requests (seen ++ line ∷ []) after
      named_at after counted marked others = record {
        counted = counted ∙ named.counted;
        each = λ other q there. elim (cases_eq other index) [
          | inl same ↦ (
            λ is. named_last spec seen line (spec.id q) version (subst (λ i. spec.begins line (record { id = i; version = version })) (sym (its other q there same)) begins),
            λ now. subst (λ k. slice_get after k ≡ Some true) (sym same) marked,
          )
          | inr apart ↦ (
            λ is. named_before spec seen line (spec.id q) ((named.each other q there).0 (sym (others other apart) ∙ is)),
            λ now. elim (named_cases spec seen line (spec.id q) now) [
              | inl earlier ↦ others other apart ∙ (named.each other q there).1 earlier
              | inr here ↦ absurd (apart (only_at id index is_at other q there (same_id (spec.id q) here.0 id version here.1 begins)))
            ],
          )
        ];
      }
        where
          its : (other : ℕ) (q : A) → slice_get requests other ≡ Some q → other ≡ index → spec.id q ≡ id
          its other q there same =
              let found = found_at id index is_at in
              ap spec.id (one_element requests other index q found.0 there found.1 same) ∙ found.2

      named_again : slice_get before index ≡ Some true → AreNamed spec requests (seen ++ line ∷ []) before
      named_again is = named_at before refl is (λ other apart. refl)

      named_now : slice_get before index ≡ Some false → AreNamed spec requests (seen ++ line ∷ []) (slice_set before index true)
      named_now is =
          named_at (slice_set before index true) (length-set before index true) (get-set_same before index true (slice_get_within before index false is))
          (λ other apart. get-set_other before index other true (λ same. apart (sym same)))

      -- if no earlier line has the id of the request at `index`, the line is the first reply to this
      -- request
      first_reply : slice_get before index ≡ Some false → (q : A) × (slice_get requests index ≡ Some q) × IsFirstReplyBy spec requests seen line q version
      first_reply is =
          let found = found_at id index is_at in (
            found.0,
            found.1,
            record {
              head = subst (λ i. spec.begins line (record { id = i; version = version })) (sym found.2) begins;
              asked = read_there requests index found.0 found.1;
              first = wasnt_named index found.0 found.1 is;
            },
          )

    -- ---- the findings, the claims and the list of the requests that have a line, after this line
    -- was read

    module _ (claims : List Claim) (findings : List Finding) (open_ones : AreOpenFindings spec batches requests seen claims findings) (are_claims : AreClaims spec requests (length batches) seen claims) where
      -- `found`, `claimed` and `after` are the findings, the claims and the requests with a line,
      -- after one more line was read. A claim says that a line is still to be compared with the right
      -- reply.
      abbrev pub AreThose : List Finding → List Claim → List Bool → Type 0
      AreThose found claimed after =
          AreOpenFindings spec batches requests (seen ++ line ∷ []) claimed found
          × AreClaims spec requests (length batches) (seen ++ line ∷ []) claimed
          × AreNamed spec requests (seen ++ line ∷ []) after

      those_settled : (found : Finding) (after : List Bool) → IsFindingBy spec batches requests seen line found → AreNamed spec requests (seen ++ line ∷ []) after → AreThose (findings ++ found ∷ []) claims after
      those_settled found after is now = (
        subst (λ cs. AreOpenFindings spec batches requests (seen ++ line ∷ []) cs (findings ++ found ∷ [])) (append-nil claims) (found_more spec batches requests seen line claims [] findings found open_ones (inl is)),
        λ claim there. claim_more spec requests (length batches) seen line claim (are_claims claim there),
        now,
      )

      pub settled_step : (found : Finding) (after : List Bool) → IsReading spec ids (length batches) line before after (reading.Settled found) → AreThose (findings ++ found ∷ []) claims after
      settled_step finding.PassedOver after (passed, kept) =
          those_settled finding.PassedOver after passed (rw kept (named_none (λ q version there begins. none_skipped line (record { id = spec.id q; version = version }) passed begins)))
      settled_step finding.Good after says = absurd says
      settled_step finding.Unread after (judged, none, kept) =
          those_settled finding.Unread after (judged, none) (rw kept (named_none (λ q version there begins. none (record { id = spec.id q; version = version }) begins)))
      settled_step finding.Foreign after (head, begins, absent, kept) =
          those_settled finding.Foreign after (head, begins, not_asked head.id absent)
          (rw kept (named_none (λ q version there other. not_asked head.id absent (q, there, same_id (spec.id q) version head.id head.version other begins))))
      settled_step finding.Doubled after (head, begins, (index, is_at, is), kept) =
          let found = found_at head.id index is_at in
          those_settled finding.Doubled after
          (head, begins, (found.0, read_there requests index found.0 found.1, found.2), subst (IsNamedBy spec seen) found.2 (was_named index found.0 found.1 is))
          (rw kept (named_again head.id head.version index begins is_at is))
      settled_step finding.NoVersion after (head, begins, above, (index, is_at, is, marked)) =
          let first = first_reply head.id head.version index begins is_at is in
          those_settled finding.NoVersion after (first.0, head.version, first.2, above) (rw marked (named_now head.id head.version index begins is_at is))
      settled_step finding.Altered after says = absurd says

      pub claims_step : (at index version : ℕ) (after : List Bool) → at ≡ length findings → IsReading spec ids (length batches) line before after (reading.Claims index version)
          → AreThose (findings ++ finding.Good ∷ []) (claims ++ record { line = at; request = index; version = version } ∷ []) after
      claims_step at index version after is_there (id, begins, within, is_at, is, marked) = (
        found_more spec batches requests seen line claims (new ∷ []) findings finding.Good open_ones (inr (refl, (new, Contains-append_right claims (new ∷ []) new (0, omega arith, refl), there))),
        each,
        rw marked (named_now id version index begins is_at is),
      )
        where
          new : Claim
          new = record { line = at; request = index; version = version }

          there : at ≡ length seen
          there = is_there ∙ open_ones.counted

          is_new : IsClaim spec requests (length batches) (seen ++ line ∷ []) new
          is_new =
              let first = first_reply id version index begins is_at is in record {
                line = line;
                q = first.0;
                is_line = rw there (get_last seen line);
                is_request = first.1;
                first = rw (take_at seen (line ∷ []) at (sym there)) first.2;
                within = within;
              }

          each : AreClaims spec requests (length batches) (seen ++ line ∷ []) (claims ++ new ∷ [])
          each claim contained = elim (Contains-append_cases claims (new ∷ []) claim contained) [
            | inl earlier ↦ claim_more spec requests (length batches) seen line claim (are_claims claim earlier)
            | inr last ↦ subst (IsClaim spec requests (length batches) (seen ++ line ∷ [])) (only last) is_new
          ]
            where
              only : Contains (new ∷ []) claim → new ≡ claim
              only (zero, low, same) = same
              only (suc k, low, same) = absurd (omega arith)

  -- if these lists are right for the lines that were read, the state of the audit that has these
  -- lists is also right
  pub has_read : (batches : List NumberedChanges) (requests : List A) (seen : List (List ℕ)) (replies : ReplyFindings) (findings : List Finding) (claims : List Claim) (named : List Bool)
      → replies.findings.items ≡ findings → replies.claims.items ≡ claims → replies.named.items ≡ named
      → AreOpenFindings spec batches requests seen claims findings × AreClaims spec requests (length batches) seen claims × AreNamed spec requests seen named → HasReadLines spec batches requests replies seen
  has_read batches requests seen replies findings claims named found claimed marked those = record {
    found = rw (found, claimed) those.0;
    claims = rw claimed those.1;
    named = rw marked those.2;
  }
