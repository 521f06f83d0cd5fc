-- How reading one record changes the list of the rows that a reader hasn't read yet.
use Rattle.std.proofs.Common.{◌≡◌, ℕ, suc, zero, ◌<◌, ◌⊎◌, inl, inr, Bool, true, false, if◌then◌else◌, List, [], ◌∷◌, length, Option, Some, None, IfSome, refl, ap, add-one, arith}
use Rattle.std.specs.Option.{option_map}
use Rattle.csv.specs.Machine.{Read, next_record, step, is_end, fields_after, field_after, ends_at_end}
use Rattle.csv.specs.Reading.{ReadsNext, NextIs, ReadRecord, default_config, records_from, records_next, source_of, pending_of, reader_state, strip_bom}
use Rattle.csv.specs.declared.parser.Config.{Config}
use Rattle.csv.specs.declared.parser.State.{State}
use Rattle.csv.specs.declared.parser.State.TheVariants as st
use Rattle.csv.specs.declared.reader.Reader.{Reader}
use Rattle.cspf_rows.specs.Records.{rest_of, rows_left, rows_of, Takes}

-- `IsShorter xs` states one of two things about a read from the bytes `xs`. Either fewer bytes are
-- left after the read, or no bytes are left and the reader is at the start of a record.
abbrev IsShorter : List ℕ → Read → Type 0
IsShorter xs p = (length p.2 < length xs) ⊎ ((p.1 ≡ st.StartRecord) × (p.2 ≡ []))

chosen : (b : Bool) (p : Read) (o : Option Read) (P : Read → Type 0) → P p → IfSome o P → IfSome (if b then Some p else o) P
chosen true p o P here there = here
chosen false p o P here there = there

longer : (c : ℕ) (xs : List ℕ) (o : Option Read) → IfSome o (IsShorter xs) → IfSome o (IsShorter (c ∷ xs))
longer c xs None h = tt
longer c xs (Some p) (inl h) = inl (omega arith)
longer c xs (Some p) (inr h) = inr h

shorter : (cfg : Config) (s : State) (fields : List (List ℕ)) (field xs : List ℕ) → IfSome (next_record cfg s fields field xs) (IsShorter xs)
unfolding next_record
shorter cfg s fields field [] = chosen (ends_at_end s) _ None (IsShorter []) (inr (refl, refl)) tt
shorter cfg s fields field (c ∷ xs) =
    chosen (is_end (step cfg s c).1) _ _ (IsShorter (c ∷ xs)) (inl (omega arith))
    (longer c xs _ (shorter cfg (step cfg s c).0 (fields_after (step cfg s c).1 fields field) (field_after (step cfg s c).1 c field) xs))

-- if the reader is at the start of a record, and no bytes are left, no records are left
none_left : (n : ℕ) → records_from default_config n st.StartRecord [] ≡ []
unfolding records_from next_record
none_left zero = refl
none_left (suc n) = refl

-- Cut a text into records, with a limit of `n` or of `m` on the records after the first record. If
-- both limits give the same records for each shorter text, they give the same records for this
-- text.
same_after : (n m : ℕ) (xs : List ℕ) (o : Option Read) → IfSome o (IsShorter xs)
    → ((s : State) (ys : List ℕ) → length ys < length xs → records_from default_config n s ys ≡ records_from default_config m s ys)
    → records_next (records_from default_config n) o ≡ records_next (records_from default_config m) o
same_after n m xs None h more = refl
same_after n m xs (Some p) (inl h) more = ap (λ rows. p.0 ∷ rows) (more p.1 p.2 h)
same_after n m xs (Some p) (inr h) more = rw (h.0, h.1, none_left n, none_left m) refl

enough : (n m : ℕ) (s : State) (xs : List ℕ) → length xs < n → length xs < m → records_from default_config n s xs ≡ records_from default_config m s xs
unfolding records_from
enough zero m s xs a b = absurd (omega arith)
enough (suc n) zero s xs a b = absurd (omega arith)
enough (suc n) (suc m) s xs a b =
    same_after n m xs _ (shorter default_config s [] [] xs) (λ t ys h. enough n m t ys (omega arith) (omega arith))

-- after one record is read, `rest_of` gives the rows that are left, from the reader's new state and
-- the bytes that are left
left_after : (xs : List ℕ) (o : Option Read) → IfSome o (IsShorter xs) → records_next (records_from default_config (length xs)) o ≡ records_next rest_of o
unfolding rest_of
left_after xs None h = refl
left_after xs (Some p) (inl h) = ap (λ rows. p.0 ∷ rows) (enough _ _ p.1 p.2 h (omega arith))
left_after xs (Some p) (inr h) = rw (h.0, h.1, none_left (length xs), none_left 1) refl

rest_next : (s : State) (xs : List ℕ) → rest_of s xs ≡ records_next rest_of (next_record default_config s [] [] xs)
unfolding rest_of records_from
rest_next s xs = rw (add-one (length xs)) (left_after xs _ (shorter default_config s [] [] xs))

takes_known : (o : Option Read) (rows : List (List (List ℕ))) (found : Bool) (fields : List (List ℕ)) (s : State) (ys : List ℕ)
    → rows ≡ records_next rest_of o → NextIs o found fields s ys → Takes (Some rows) (Some (rest_of s ys)) found fields
takes_known None rows true fields s ys e h = cc
takes_known None rows false fields s ys e h = e
takes_known (Some p) rows true fields s ys e h = rw (h.1, h.2, h.3) e
takes_known (Some p) rows false fields s ys e h = cc h.0

takes : (s s2 : State) (before after : Option (List ℕ)) (found : Bool) (fields : List (List ℕ))
    → ReadsNext default_config s before after found fields s2
    → Takes (option_map (λ bytes. rest_of s bytes) before) (option_map (λ bytes. rest_of s2 bytes) after) found fields
takes s s2 None after found fields h = tt
takes s s2 (Some xs) None found fields h = absurd h
takes s s2 (Some xs) (Some ys) found fields h = takes_known _ _ found fields s2 ys (rest_next s xs) h

-- reading a record either returns the first of the rows that are left, or finds that no row is left
pub takes_read : {R : Type 0} (rem : R → Option (List ℕ)) (old new : Reader R) (found : Bool) (fields : List (List ℕ))
    → old.config ≡ default_config → ReadRecord rem old new found fields → Takes (rows_left rem old) (rows_left rem new) found fields
takes_read rem old new found fields config h =
    rw h.1 (takes old.state new.state (source_of rem old) (pending_of (rem new.rdr) new) found fields (rw config at h.0))

rows_of_known : (bytes : Option (List ℕ)) → option_map (λ text. rest_of st.StartRecord text) (option_map strip_bom bytes) ≡ option_map rows_of bytes
unfolding rest_of rows_of
rows_of_known None = refl
rows_of_known (Some text) = refl

-- a reader that was just opened still has to read all rows of its bytes
pub rows_opened : {R : Type 0} (rem : R → Option (List ℕ)) (r : Reader R) (bytes : Option (List ℕ))
    → reader_state r ≡ st.StartRecord → source_of rem r ≡ option_map strip_bom bytes → rows_left rem r ≡ option_map rows_of bytes
rows_opened rem r bytes state source = rw (state, source) (rows_of_known bytes)
