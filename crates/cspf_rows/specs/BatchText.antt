-- The text of a batch, as a journal keeps it.
use Rattle.std.specs.Prelude.{ℕ, List, [], ◌∷◌, ◌++◌, map, length}
use Rattle.std.specs.Fmt.{decimal}
use Rattle.std.specs.List.{flat_map, join_with_byte}
use Rattle.cspf_addr.specs.AddressText.{address_text}
use Rattle.cspf_addr.specs.MaskText.{mask_text}
use Rattle.cspf_model.specs.declared.batch.Change.{Change}
use Rattle.cspf_model.specs.declared.batch.Change.TheVariants as change
use Rattle.cspf_model.specs.declared.link.Link.{Link}
use Rattle.cspf_model.specs.Numbered.{NumberedChanges}
use Rattle.cspf_rows.specs.Written.{put_fields, drop_fields, node_fields, end_fields}

-- the fields of the record of a change; the group of a link is written as `0x` and eight
-- hexadecimal digits
abbrev pub change_fields : Change → List (List ℕ)
change_fields (change.Put link) = put_fields link (mask_text link.group)
change_fields (change.Remove from local) = drop_fields from local
change_fields (change.Node router transit) = node_fields router transit

-- the line of a record: commas between its fields, and a line feed after the last field
unfoldable pub record_line : List (List ℕ) → List ℕ
record_line fields = join_with_byte 44 fields ++ (10 ∷ [])

-- the records of a batch: one for each change, in order, and then that of the `end` row
abbrev pub batch_records : NumberedChanges → List (List (List ℕ))
batch_records batch = map change_fields batch.changes ++ (end_fields batch.number (length batch.changes) ∷ [])

-- the text of a batch: a line for each of its records
abbrev pub batch_text : NumberedChanges → List ℕ
batch_text batch = flat_map record_line (batch_records batch)

-- private: the fields, each after a comma
abbrev pub fields_after : List (List ℕ) → List ℕ
fields_after fields = flat_map (λ field. 44 ∷ field) fields

-- private: the fields of a `put` row between the word `put` and the unreserved bandwidths
abbrev pub attributes : Link → List (List ℕ)
attributes link =
    address_text link.from ∷ address_text link.local ∷ address_text link.to ∷ address_text link.remote ∷ decimal link.metric ∷ mask_text link.group ∷ []
