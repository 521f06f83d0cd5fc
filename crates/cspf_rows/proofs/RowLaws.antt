-- A record is read as a row exactly if it says this row.
use Rattle.std.proofs.Common.{◌≡◌, ℕ, ◌<◌, Bool, true, false, cond, eqb, List, [], ◌∷◌, length, slice_index, Result, Ok, Err, refl, sym, ap, ◌∙◌, subst, arith}
use Rattle.std.proofs.lemmas.Bool.{eqb-true}
use Rattle.std.proofs.lemmas.Slice.Eq.{bytes_eq-Decides}
use Rattle.std.specs.Prelude.{codes}
use Rattle.std.specs.Str.{bytes_eq}
use Rattle.cspf_model.specs.Fields.{LinkFields, RequestFields, HasLinkFields, HasRequestFields}
use Rattle.cspf_model.specs.declared.link.Link.{Link}
use Rattle.cspf_model.specs.declared.request.Request.{Request}
use Rattle.cspf_rows.specs.declared.row.Row.{Row}
use Rattle.cspf_rows.specs.declared.row.Row.TheVariants as row
use Rattle.cspf_rows.specs.declared.row_error.RowError.{RowError}
use Rattle.cspf_addr.specs.ResultSteps.{◌>>=◌}
use Rattle.cspf_rows.specs.FieldValues.{field, number_at, small_number_at, priority_at, address_at, mask_at, hops_at}
use Rattle.cspf_rows.specs.Rows.{link_with, request_with, put_between, put, ask_between, ask, put_row_of, drop_row_of, node_row_of, end_row_of, ask_row_of, row_of, row_of_two}
use Rattle.cspf_rows.specs.FieldTexts.{AreTextsRead}
use Rattle.cspf_rows.specs.Says.{SaysPut, SaysRemove, SaysNode, SaysEnd, SaysAsk, Says, AreRowsRead, SaysOneRow}
use Rattle.cspf_rows.proofs.AttributeLemmas.{put-link, ask-fields}
use Rattle.cspf_rows.proofs.FieldLemmas.{first_step, number_at-spelled, spelled-number_at, small_number_at-spelled, spelled-small_number_at, priority_at-spelled, spelled-priority_at, flag_at-spelled, spelled-flag_at, address_at-spelled, spelled-address_at, mask_at-spelled, spelled-mask_at, hops_at-spelled, spelled-hops_at}

-- a list of eight numbers is the list of its elements at the indices 0 to 7
eight_items : (xs : List ℕ) → length xs ≡ 8
    → xs ≡ slice_index xs 0 ∷ slice_index xs 1 ∷ slice_index xs 2 ∷ slice_index xs 3 ∷ slice_index xs 4 ∷ slice_index xs 5 ∷ slice_index xs 6 ∷ slice_index xs 7 ∷ []
eight_items (a ∷ b ∷ c ∷ d ∷ e ∷ f ∷ g ∷ h ∷ []) n = refl
eight_items other n = absurd (omega (arith, n))

-- the lemmas which state that a field is read as the value that it spells
ruleset fields_said = (number_at-spelled, small_number_at-spelled, priority_at-spelled, address_at-spelled, mask_at-spelled)

-- if a record says a `put` row, the record is read as that row
put_row_of-said : AreTextsRead → (fields : List (List ℕ)) (link : Link) → SaysPut fields link → put_row_of fields ≡ Ok (row.Put link)
unfolding put_row_of
put_row_of-said texts fields link s =
    simp (fields_said, texts, s.from, s.local, s.to, s.remote, s.metric, s.group, s.free_0, s.free_1, s.free_2, s.free_3, s.free_4, s.free_5, s.free_6, s.free_7)
    (put-link texts.links link _ refl (record { from = refl; local = refl; to = refl; remote = refl; metric = refl; group = refl; free = eight_items link.free link.eight }))

drop_row_of-said : AreTextsRead → (fields : List (List ℕ)) (from local : ℕ) → SaysRemove fields from local → drop_row_of fields ≡ Ok (row.Remove from local)
unfolding drop_row_of
drop_row_of-said texts fields from local s = rw (address_at-spelled texts fields 2 from s.from, address_at-spelled texts fields 3 local s.local) refl

node_row_of-said : AreTextsRead → (fields : List (List ℕ)) (router : ℕ) (transit : Bool) → SaysNode fields router transit → node_row_of fields ≡ Ok (row.Node router transit)
unfolding node_row_of
node_row_of-said texts fields router transit s = rw (address_at-spelled texts fields 2 router s.router, flag_at-spelled texts fields 3 transit s.transit) refl

end_row_of-said : AreTextsRead → (fields : List (List ℕ)) (number count : ℕ) → SaysEnd fields number count → end_row_of fields ≡ Ok (row.End number count)
unfolding end_row_of
end_row_of-said texts fields number count s =
    rw (small_number_at-spelled texts fields 2 number s.number, small_number_at-spelled texts fields 3 count s.has) refl

ask_row_of-said : AreTextsRead → (fields : List (List ℕ)) (request : Request) → SaysAsk fields request → ask_row_of fields ≡ Ok (row.Ask request)
unfolding ask_row_of
ask_row_of-said texts fields request s =
    simp (fields_said, texts, s.id, s.from, s.to, s.setup, s.bandwidth, s.exclude_any, s.include_any, s.include_all, hops_at-spelled texts fields 10 request.hops s.hops) (ask-fields request)

-- if a record says a row, the record is read as that row
pub row_of-said : AreTextsRead → (fields : List (List ℕ)) (r : Row) → Says fields r → row_of fields ≡ Ok r
unfolding row_of
row_of-said texts fields (row.Put link) s = rw (s.kind, s.count) (put_row_of-said texts fields link s)
row_of-said texts fields (row.Remove from local) s = rw (s.kind, s.count) (drop_row_of-said texts fields from local s)
row_of-said texts fields (row.Node router transit) s = rw (s.kind, s.count) (node_row_of-said texts fields router transit s)
row_of-said texts fields (row.End number count) s = rw (s.kind, s.count) (end_row_of-said texts fields number count s)
row_of-said texts fields (row.Ask request) s = rw (s.kind, s.count) (ask_row_of-said texts fields request s)

-- if `put_between` gives a row, this row puts a link that has these attributes
said-put : (link : LinkFields) (eight : length link.free ≡ 8) (ends : Dec (link.from ≡ link.to)) (r : Row) → put_between link eight ends ≡ Ok r
    → (l : Link) × (row.Put l ≡ r) × HasLinkFields l link
said-put link eight (yes same) r made = absurd (cc)
said-put link eight (no apart) r made = (
  link_with link eight apart,
  cc,
  record { from = refl; local = refl; to = refl; remote = refl; metric = refl; group = refl; free = refl },
)

-- if `ask_between` gives a row, this row asks for a request that has these fields
said-ask : (request : RequestFields) (low : Dec (request.setup < 8)) (ends : Dec (request.from ≡ request.to)) (r : Row) → ask_between request low ends ≡ Ok r
    → (q : Request) × (row.Ask q ≡ r) × HasRequestFields q request
said-ask request (no above) ends r made = absurd (cc)
said-ask request (yes below) (yes same) r made = absurd (cc)
said-ask request (yes below) (no apart) r made = (
  request_with request below apart,
  cc,
  record { id = refl; from = refl; to = refl; setup = refl; bandwidth = refl; exclude_any = refl; include_any = refl; include_all = refl; hops = refl },
)

-- Let two reading steps, one after the other, give a value. A claim holds if it follows from the
-- values of the two steps.
stepped : {A B : Type 0} {G : Type 0} (r : Result A RowError) (f : A → Result B RowError) (y : B) → (r >>= f) ≡ Ok y → ((x : A) → r ≡ Ok x → f x ≡ Ok y → G) → G
stepped r f y found next = let step = first_step r f y found in next step.0 step.1 step.2

-- a record that is read as a `put` row says that row
said-put_row_of : AreTextsRead → (fields : List (List ℕ)) (r : Row) → length fields ≡ 15 → field fields 1 ≡ codes "put" → put_row_of fields ≡ Ok r → Says fields r
unfolding put_row_of put
said-put_row_of texts fields r count kind read =
    stepped (address_at fields 2) _ r read (λ from is_from after_from.
    stepped (address_at fields 3) _ r after_from (λ local is_local after_local.
    stepped (address_at fields 4) _ r after_local (λ to is_to after_to.
    stepped (address_at fields 5) _ r after_to (λ remote is_remote after_remote.
    stepped (small_number_at fields 6) _ r after_remote (λ metric is_metric after_metric.
    stepped (mask_at fields 7) _ r after_metric (λ group is_group after_group.
    stepped (number_at fields 8) _ r after_group (λ u0 is_u0 after_u0.
    stepped (number_at fields 9) _ r after_u0 (λ u1 is_u1 after_u1.
    stepped (number_at fields 10) _ r after_u1 (λ u2 is_u2 after_u2.
    stepped (number_at fields 11) _ r after_u2 (λ u3 is_u3 after_u3.
    stepped (number_at fields 12) _ r after_u3 (λ u4 is_u4 after_u4.
    stepped (number_at fields 13) _ r after_u4 (λ u5 is_u5 after_u5.
    stepped (number_at fields 14) _ r after_u5 (λ u6 is_u6 after_u6.
    stepped (number_at fields 15) _ r after_u6 (λ u7 is_u7 after_u7.
    let made = said-put _ _ _ r after_u7 in
    let has = made.2 in
    let said : SaysPut fields made.0 = record {
      count = count;
      kind = kind;
      from = spelled-address_at texts fields 2 made.0.from (is_from ∙ ap Ok (sym has.from));
      local = spelled-address_at texts fields 3 made.0.local (is_local ∙ ap Ok (sym has.local));
      to = spelled-address_at texts fields 4 made.0.to (is_to ∙ ap Ok (sym has.to));
      remote = spelled-address_at texts fields 5 made.0.remote (is_remote ∙ ap Ok (sym has.remote));
      metric = spelled-small_number_at texts fields 6 made.0.metric (is_metric ∙ ap Ok (sym has.metric));
      group = spelled-mask_at texts fields 7 made.0.group (is_group ∙ ap Ok (sym has.group));
      free_0 = spelled-number_at texts fields 8 (slice_index made.0.free 0) (is_u0 ∙ ap (λ free. Ok (slice_index free 0)) (sym has.free));
      free_1 = spelled-number_at texts fields 9 (slice_index made.0.free 1) (is_u1 ∙ ap (λ free. Ok (slice_index free 1)) (sym has.free));
      free_2 = spelled-number_at texts fields 10 (slice_index made.0.free 2) (is_u2 ∙ ap (λ free. Ok (slice_index free 2)) (sym has.free));
      free_3 = spelled-number_at texts fields 11 (slice_index made.0.free 3) (is_u3 ∙ ap (λ free. Ok (slice_index free 3)) (sym has.free));
      free_4 = spelled-number_at texts fields 12 (slice_index made.0.free 4) (is_u4 ∙ ap (λ free. Ok (slice_index free 4)) (sym has.free));
      free_5 = spelled-number_at texts fields 13 (slice_index made.0.free 5) (is_u5 ∙ ap (λ free. Ok (slice_index free 5)) (sym has.free));
      free_6 = spelled-number_at texts fields 14 (slice_index made.0.free 6) (is_u6 ∙ ap (λ free. Ok (slice_index free 6)) (sym has.free));
      free_7 = spelled-number_at texts fields 15 (slice_index made.0.free 7) (is_u7 ∙ ap (λ free. Ok (slice_index free 7)) (sym has.free));
    } in
    subst (Says fields) made.1 said))))))))))))))

-- Let a record say the row `make x y` if its two fields are read as `x` and `y`. Then the record
-- says each row that `row_of_two` reads from it.
said_of_two : {A B : Type 0} (fields : List (List ℕ)) (first : Result A RowError) (second : Result B RowError) (make : A → B → Row) (r : Row)
    → ((x : A) (y : B) → first ≡ Ok x → second ≡ Ok y → Says fields (make x y)) → row_of_two first second make ≡ Ok r → Says fields r
said_of_two fields (Ok x) (Ok y) make r says read =
    let same : make x y ≡ r = cc in
    subst (Says fields) same (says x y refl refl)
said_of_two fields (Ok x) (Err e) make r says read = absurd (cc)
said_of_two fields (Err e) second make r says read = absurd (cc)

said-drop_row_of : AreTextsRead → (fields : List (List ℕ)) (r : Row) → length fields ≡ 3 → field fields 1 ≡ codes "drop" → drop_row_of fields ≡ Ok r → Says fields r
unfolding drop_row_of
said-drop_row_of texts fields r count kind =
    said_of_two fields _ _ row.Remove r (λ from local is_from is_local. record { count = count; kind = kind; from = spelled-address_at texts fields 2 from is_from; local = spelled-address_at texts fields 3 local is_local })

said-node_row_of : AreTextsRead → (fields : List (List ℕ)) (r : Row) → length fields ≡ 3 → field fields 1 ≡ codes "node" → node_row_of fields ≡ Ok r → Says fields r
unfolding node_row_of
said-node_row_of texts fields r count kind =
    said_of_two fields _ _ row.Node r (λ router transit is_router is_transit. record { count = count; kind = kind; router = spelled-address_at texts fields 2 router is_router; transit = spelled-flag_at texts fields 3 transit is_transit })

said-end_row_of : AreTextsRead → (fields : List (List ℕ)) (r : Row) → length fields ≡ 3 → field fields 1 ≡ codes "end" → end_row_of fields ≡ Ok r → Says fields r
unfolding end_row_of
said-end_row_of texts fields r count kind =
    said_of_two fields _ _ row.End r (λ number changes is_number is_changes. record { count = count; kind = kind; number = spelled-small_number_at texts fields 2 number is_number; has = spelled-small_number_at texts fields 3 changes is_changes })

said-ask_row_of : AreTextsRead → (fields : List (List ℕ)) (r : Row) → length fields ≡ 10 → field fields 1 ≡ codes "ask" → ask_row_of fields ≡ Ok r → Says fields r
unfolding ask_row_of ask
said-ask_row_of texts fields r count kind read =
    let id = first_step (number_at fields 2) _ r read in
    let from = first_step (address_at fields 3) _ r id.2 in
    let to = first_step (address_at fields 4) _ r from.2 in
    let setup = first_step (priority_at fields 5) _ r to.2 in
    let bandwidth = first_step (number_at fields 6) _ r setup.2 in
    let exclude_any = first_step (mask_at fields 7) _ r bandwidth.2 in
    let include_any = first_step (mask_at fields 8) _ r exclude_any.2 in
    let include_all = first_step (mask_at fields 9) _ r include_any.2 in
    let hops = first_step (hops_at fields 10) _ r include_all.2 in
    let made = said-ask _ _ _ r hops.2 in
    let says = made.2 in
    let said : SaysAsk fields made.0 = record {
      count = count;
      kind = kind;
      id = spelled-number_at texts fields 2 made.0.id (id.1 ∙ ap Ok (sym says.id));
      from = spelled-address_at texts fields 3 made.0.from (from.1 ∙ ap Ok (sym says.from));
      to = spelled-address_at texts fields 4 made.0.to (to.1 ∙ ap Ok (sym says.to));
      setup = spelled-priority_at texts fields 5 made.0.setup (setup.1 ∙ ap Ok (sym says.setup));
      bandwidth = spelled-number_at texts fields 6 made.0.bandwidth (bandwidth.1 ∙ ap Ok (sym says.bandwidth));
      exclude_any = spelled-mask_at texts fields 7 made.0.exclude_any (exclude_any.1 ∙ ap Ok (sym says.exclude_any));
      include_any = spelled-mask_at texts fields 8 made.0.include_any (include_any.1 ∙ ap Ok (sym says.include_any));
      include_all = spelled-mask_at texts fields 9 made.0.include_all (include_all.1 ∙ ap Ok (sym says.include_all));
      hops = spelled-hops_at texts fields 10 made.0.hops (hops.1 ∙ ap Ok (sym says.hops));
    } in
    subst (Says fields) made.1 said

-- Let a test choose between the result `x` and an error. If the outcome is a row, the test was true
-- and `x` is this row.
passed_row : (b : Bool) (x : Result Row RowError) (e : RowError) (r : Row) → cond b x (Err e) ≡ Ok r → (b ≡ true) × (x ≡ Ok r)
passed_row true x e r read = (refl, read)
passed_row false x e r read = absurd (cc)

-- if a record is read as a row of some kind, it has the number of fields of this kind
counted : (fields : List (List ℕ)) (count : ℕ) (x : Result Row RowError) (e : RowError) (r : Row) → cond (eqb (length fields) count) x (Err e) ≡ Ok r
    → (length fields ≡ count) × (x ≡ Ok r)
counted fields count x e r read =
    let h = passed_row (eqb (length fields) count) x e r read in
    (eqb-true (length fields) count h.0, h.1)

-- Let a record be read as `x` if its first field is the word `name`, and as `y` otherwise. If the
-- record is read as a row, a claim follows once it is shown for each of the two cases.
by_word : {G : Type 0} (text name : List ℕ) (x y : Result Row RowError) (r : Row) (b : Bool) → b ≡ bytes_eq text name → cond b x y ≡ Ok r
    → (text ≡ name → x ≡ Ok r → G) → (y ≡ Ok r → G) → G
by_word text name x y r true is read here there = here ((bytes_eq-Decides text name).0 (sym is)) read
by_word text name x y r false is read here there = there read

-- a record that is read as a row says that row
pub said-row_of : AreTextsRead → (fields : List (List ℕ)) (r : Row) → row_of fields ≡ Ok r → Says fields r
unfolding row_of
said-row_of texts fields r read =
    by_word (field fields 1) (codes "put") _ _ r _ refl read (λ kind h. let n = counted fields 15 (put_row_of fields) _ r h in said-put_row_of texts fields r n.0 kind n.1)
    (λ no_put. by_word (field fields 1) (codes "drop") _ _ r _ refl no_put (λ kind h. let n = counted fields 3 (drop_row_of fields) _ r h in said-drop_row_of texts fields r n.0 kind n.1)
    (λ no_drop. by_word (field fields 1) (codes "node") _ _ r _ refl no_drop (λ kind h. let n = counted fields 3 (node_row_of fields) _ r h in said-node_row_of texts fields r n.0 kind n.1)
    (λ no_node. by_word (field fields 1) (codes "end") _ _ r _ refl no_node (λ kind h. let n = counted fields 3 (end_row_of fields) _ r h in said-end_row_of texts fields r n.0 kind n.1)
    (λ no_end. by_word (field fields 1) (codes "ask") _ _ r _ refl no_end (λ kind h. let n = counted fields 10 (ask_row_of fields) _ r h in said-ask_row_of texts fields r n.0 kind n.1)
    (λ none. absurd (cc))))))

pub rows_read : AreTextsRead → AreRowsRead
rows_read texts fields r = (said-row_of texts fields r, row_of-said texts fields r)

-- a record says at most one row: the row as which it is read
pub one_row : AreTextsRead → SaysOneRow
one_row texts fields r other first second =
    let read = row_of-said texts fields r first in
    let again = row_of-said texts fields other second in
    cc
