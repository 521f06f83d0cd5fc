-- Why a record is refused. The kind is checked first, then the number of fields, then each field in
-- order, and then whether the two endpoints differ. The first check that fails gives the reason.
use Rattle.std.specs.Prelude.{◌≡◌, ◌≢◌, ℕ, Bool, ◌+◌, ◌^◌, ◌↔◌, ◌⊎◌, List, [], ◌∷◌, ◌++◌, length, codes, Ok, Err}
use Rattle.hex.specs.Hex.{decode_of}
use Rattle.cspf_addr.specs.MaskText.{SpellsMask}
use Rattle.cspf_addr.specs.HopLists.{hops_of}
use Rattle.cspf_addr.specs.declared.hop.Hop.{Hop}
use Rattle.cspf_ero.specs.Reading.{ero_of}
use Rattle.cspf_rows.specs.declared.row_error.HopsFault.{HopsFault}
use Rattle.cspf_rows.specs.declared.row_error.HopsFault.TheVariants as fault
use Rattle.cspf_rows.specs.declared.row_error.RowError.{RowError}
use Rattle.cspf_rows.specs.declared.row_error.RowError.TheVariants as error
use Rattle.cspf_rows.specs.FieldValues.{field}
use Rattle.cspf_rows.specs.Rows.{row_of}
use Rattle.cspf_rows.specs.Says.{SpellsNumber, SpellsFlag, SpellsAddress, SpellsHops}

-- the kinds of rows: a change of a link or a router, the end of a batch, or a request
pub data Kind : Type 0 where
  put_kind : Kind
  drop_kind : Kind
  node_kind : Kind
  end_kind : Kind
  ask_kind : Kind

-- the sorts of fields: the text of a field has to spell a value of the field's sort
pub data Sort : Type 0 where
  address : Sort
  number : Sort
  small_number : Sort
  priority : Sort
  flag : Sort
  mask : Sort
  hops : Sort

-- the word that is the first field of a row of this kind
abbrev pub word_of : Kind → List ℕ
word_of put_kind = codes "put"
word_of drop_kind = codes "drop"
word_of node_kind = codes "node"
word_of end_kind = codes "end"
word_of ask_kind = codes "ask"

-- the sorts of the fields of a row of this kind, from field 2 on; field 1 is the word of the kind
abbrev pub sorts_of : Kind → List Sort
sorts_of put_kind = address ∷ address ∷ address ∷ address ∷ small_number ∷ mask ∷ number ∷ number ∷ number ∷ number ∷ number ∷ number ∷ number ∷ number ∷ []
sorts_of drop_kind = address ∷ address ∷ []
sorts_of node_kind = address ∷ flag ∷ []
sorts_of end_kind = small_number ∷ small_number ∷ []
sorts_of ask_kind = number ∷ address ∷ address ∷ priority ∷ number ∷ mask ∷ mask ∷ mask ∷ hops ∷ []

-- the text spells a value of the sort
abbrev pub SpellsSort : Sort → List ℕ → Type 0
SpellsSort address text = (n : ℕ) × SpellsAddress text n
SpellsSort number text = (n : ℕ) × SpellsNumber (2 ^ 64) text n
SpellsSort small_number text = (n : ℕ) × SpellsNumber (2 ^ 32) text n
SpellsSort priority text = (n : ℕ) × SpellsNumber 8 text n
SpellsSort flag text = (b : Bool) × SpellsFlag text b
SpellsSort mask text = (n : ℕ) × SpellsMask text n
SpellsSort hops text = (list : List Hop) × SpellsHops text list

-- Why a text spells no hops. A text that doesn't begin with `ero:` is refused because it isn't a
-- hop list. A text that begins with `ero:` has one of two faults. Either the digits after `ero:`
-- don't decode to bytes, or these bytes aren't an EXPLICIT_ROUTE object that spells hops.
abbrev pub IsHopsFault : List ℕ → HopsFault → Type 0
IsHopsFault text (fault.Text why) = ((rest : List ℕ) → text ≢ codes "ero:" ++ rest) × (hops_of text ≡ Err why)
IsHopsFault text fault.Hex = (digits : List ℕ) × (text ≡ codes "ero:" ++ digits) × ((bytes : List ℕ) → decode_of digits ≢ Ok bytes)
IsHopsFault text (fault.Ero why) =
    (digits : List ℕ) × (bytes : List ℕ) × (text ≡ codes "ero:" ++ digits) × (decode_of digits ≡ Ok bytes) × (ero_of bytes ≡ Err why)

-- field `place` of a record is refused with the error `e`, because its text spells no value of the
-- field's sort
abbrev pub IsFieldRefused : Sort → ℕ → List ℕ → RowError → Type 0
IsFieldRefused address place text e = (e ≡ error.Address place) × ¬ SpellsSort address text
IsFieldRefused number place text e = (e ≡ error.Number place) × ¬ SpellsSort number text
IsFieldRefused small_number place text e = (e ≡ error.Number place) × ¬ SpellsSort small_number text
IsFieldRefused priority place text e =
    ((e ≡ error.Number place) × ¬ SpellsSort small_number text)
    ⊎ ((e ≡ error.Priority) × SpellsSort small_number text × ¬ SpellsSort priority text)
IsFieldRefused flag place text e = (e ≡ error.Number place) × ¬ SpellsSort flag text
IsFieldRefused mask place text e = (e ≡ error.Mask place) × ¬ SpellsSort mask text
IsFieldRefused hops place text e = (why : HopsFault) × (e ≡ error.Hops why) × IsHopsFault text why

-- both texts spell the same address
abbrev pub SpellOneAddress : List ℕ → List ℕ → Type 0
SpellOneAddress text other = (n : ℕ) × SpellsAddress text n × SpellsAddress other n

-- A record is refused with the error `e`, because its two endpoints are the same router. All its
-- fields spell values.
abbrev pub AreEndsRefused : Kind → List (List ℕ) → RowError → Type 0
AreEndsRefused put_kind fields e = (e ≡ error.SelfLink) × SpellOneAddress (field fields 2) (field fields 4)
AreEndsRefused drop_kind fields e = ⊥
AreEndsRefused node_kind fields e = ⊥
AreEndsRefused end_kind fields e = ⊥
AreEndsRefused ask_kind fields e = (e ≡ error.SameEnds) × SpellOneAddress (field fields 3) (field fields 4)

-- The fields from field `place` on are checked in order. The record is refused for the first of
-- them that spells no value of its sort. If each of them spells a value, the record is refused
-- because its two endpoints are the same router.
abbrev pub AreFieldsRefused : Kind → ℕ → List Sort → List (List ℕ) → RowError → Type 0
AreFieldsRefused kind place [] fields e = AreEndsRefused kind fields e
AreFieldsRefused kind place (sort ∷ sorts) fields e =
    IsFieldRefused sort place (field fields place) e
    ⊎ (SpellsSort sort (field fields place) × AreFieldsRefused kind (place + 1) sorts fields e)

-- A record of this kind is refused with the error `e`. The reason is its number of fields, one of
-- its fields, or that its two endpoints are the same router.
abbrev pub IsRefusedAs : Kind → List (List ℕ) → RowError → Type 0
IsRefusedAs kind fields e =
    ((e ≡ error.Fields) × (length fields ≢ 1 + length (sorts_of kind)))
    ⊎ ((length fields ≡ 1 + length (sorts_of kind)) × AreFieldsRefused kind 2 (sorts_of kind) fields e)

-- Why a record is refused: its first field names no kind, or the record is refused as a record of
-- its kind.
abbrev pub IsRefused : List (List ℕ) → RowError → Type 0
IsRefused fields e =
    ((e ≡ error.Kind) × ((kind : Kind) → field fields 1 ≢ word_of kind))
    ⊎ ((kind : Kind) × (field fields 1 ≡ word_of kind) × IsRefusedAs kind fields e)

-- the reader refuses a record with an error exactly if `IsRefused` says so
abbrev pub AreRowsRefused : Type 0
AreRowsRefused = (fields : List (List ℕ)) (e : RowError) → (row_of fields ≡ Err e) ↔ IsRefused fields e

-- a record is refused for only one reason
abbrev pub IsRefusedOnce : Type 0
IsRefusedOnce = (fields : List (List ℕ)) (e other : RowError) → IsRefused fields e → IsRefused fields other → e ≡ other
