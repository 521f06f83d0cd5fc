-- The text of a batch, line by line.
use Rattle.std.proofs.Common.{◌≡◌, ℕ, refl, List, [], ◌∷◌, ◌++◌, map, length, codes, sym, ap, append_assoc, append-nil}
use Rattle.std.proofs.lemmas.Grind.{flat_map-append}
use Rattle.std.proofs.lemmas.List.Folds.{flat_map-map}
use Rattle.std.specs.Fmt.{decimal}
use Rattle.std.specs.List.{flat_map, join_with_byte}
use Rattle.cspf_addr.specs.MaskText.{mask_text}
use Rattle.cspf_model.specs.declared.link.Link.{Link}
use Rattle.cspf_model.specs.Numbered.{NumberedChanges}
use Rattle.cspf_rows.specs.Written.{put_fields, end_fields}
use Rattle.cspf_rows.specs.BatchText.{record_line, batch_text, change_fields, fields_after, attributes}

-- fields joined by commas are the first field, followed by the other fields, each after a comma
join_with_byte-cons : (x : List ℕ) (xs : List (List ℕ)) → join_with_byte 44 (x ∷ xs) ≡ x ++ fields_after xs
join_with_byte-cons x [] = sym (append-nil x)
join_with_byte-cons x (y ∷ ys) = ap (λ rest. x ++ (44 ∷ rest)) (join_with_byte-cons y ys)

pub line_text-cons : (x : List ℕ) (xs : List (List ℕ)) → record_line (x ∷ xs) ≡ x ++ (fields_after xs ++ (10 ∷ []))
unfolding record_line
line_text-cons x xs = rw (join_with_byte-cons x xs, append_assoc x (fields_after xs) (10 ∷ [])) refl

-- a field, two more fields after a comma each, and a line feed are the line of a record of three
-- fields
pub line_of_three : (old x a b : List ℕ) → (((old ++ x) ++ (44 ∷ a)) ++ (44 ∷ b)) ++ (10 ∷ []) ≡ old ++ record_line (x ∷ a ∷ b ∷ [])
line_of_three old x a b = rw (line_text-cons x (a ∷ b ∷ [])) (simp (append_assoc))

-- the line of a record is the same whether its fields are appended at once or in two parts
line_text-append : (old x : List ℕ) (xs ys : List (List ℕ)) → ((old ++ (x ++ fields_after xs)) ++ fields_after ys) ++ (10 ∷ []) ≡ old ++ record_line (x ∷ (xs ++ ys))
line_text-append old x xs ys = simp (line_text-cons, flat_map-append, append_assoc)

-- Appending `put`, the attributes of a link, its bandwidths and a line feed appends the line of
-- this link.
pub line_text-put : (old mid new : List ℕ) (link : Link) → mid ≡ old ++ (codes "put" ++ fields_after (attributes link))
    → new ≡ mid ++ fields_after (map decimal link.free) → new ++ (10 ∷ []) ≡ old ++ record_line (put_fields link (mask_text link.group))
line_text-put old mid new link a b = rw (b, a) (line_text-append old (codes "put") (attributes link) (map decimal link.free))

pub batch_text-lines : (batch : NumberedChanges)
    → flat_map (λ change. record_line (change_fields change)) batch.changes ++ record_line (end_fields batch.number (length batch.changes)) ≡ batch_text batch
batch_text-lines batch = simp (flat_map-append, flat_map-map, append-nil)
