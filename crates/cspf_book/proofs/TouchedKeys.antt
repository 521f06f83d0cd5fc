-- How the keys of changes are added to the touched keys.
use Rattle.std.proofs.Common.{◌≡◌, ℕ, ◌+◌, ◌<◌, Bool, true, false, cond, Option, Some, None, List, length, take, set, nat_eq, slice_index_or, get_or-set_same, get_or-set_other, refl, sym, ap, subst, ◌∙◌, eqb-true, eq-eqb}
use Rattle.std.specs.Int.Bits.{bit_and, bit_or}
use Rattle.std.proofs.lemmas.Bool.{false≢true}
use Rattle.cspf_model.specs.declared.batch.Change.{Change}
use Rattle.cspf_model.specs.Database.{Database}
use Rattle.cspf_model.specs.Changes.{ChangeKey, key_changed, last_on}
use Rattle.cspf_model.proofs.Databases.Keys.{change_keys_same}
use Rattle.cspf_book.specs.declared.touched.Touched.{Touched}
use Rattle.cspf_book.specs.RouterBits.{slot_of, four_bits}
use Rattle.cspf_book.specs.Touched.{KeepsTouched, IsEntered, AreEntered}
use Rattle.cspf_book.proofs.ByKey.{last_on-more}
use Rattle.cspf_book.proofs.ChangedBases.{on_key}
use Rattle.cspf_book.proofs.RouterBits.{among_more, common_less}

-- A slot that is set stays set.
still_set : (slots : List Bool) (i j : ℕ) → i < length slots → slice_index_or slots j false ≡ true → slice_index_or (set slots i true) j false ≡ true
still_set slots i j within is =
    elim (nat_eq j i) as (λ t. nat_eq j i ≡ t → slice_index_or (set slots i true) j false ≡ true) [
      | true ↦ λ same. rw (eqb-true j i same) (get_or-set_same slots i true false within)
      | false ↦ λ other. get_or-set_other slots i j true false (λ (e : j ≡ i). false≢true (sym other ∙ eq-eqb j i e)) ∙ is
    ] refl

-- If the slot of a key and the bits of its router are set, and only bits of its link stay common, no
-- other key is touched less.
pub touched_kept : (old new : Touched) (k : ChangeKey) (its slot : ℕ) → slot < length old.slots.items → new.slots.items ≡ set old.slots.items slot true
    → new.bits ≡ bit_or old.bits (four_bits k.0) → new.common ≡ bit_and old.common its → new.groups ≡ old.groups → KeepsTouched old new
touched_kept old new k its slot within slots bits common groups = record {
  groups = groups;
  at = λ j far is. record {
    slot = rw slots (still_set old.slots.items slot (slot_of j) within is.slot);
    bits = rw bits (among_more old.bits (four_bits k.0) (four_bits j.0) is.bits);
    common = rw common (common_less old.common its (bit_or (four_bits j.0) (four_bits far)) is.common);
  };
}

-- If the keys of the first i changes are entered, and the key of the change at index i is entered
-- besides, the keys of the first i + 1 changes are entered.
pub entered_more : (d e : Database) (old new : Touched) (cs : List Change) (i : ℕ) (c : Change) → i < length cs → c ≡ slice_index_or cs i c
    → KeepsTouched old new → IsEntered d e new (key_changed c).0 (key_changed c).1 → AreEntered d e (take i cs) old → AreEntered d e (take (i + 1) cs) new
entered_more d e old new cs i c within is kept entered before = record {
  at = λ k b last. by_key k b (on_key k c) refl (sym (last_on-more k cs i c within is) ∙ last);
}
  where
    still : (router : ℕ) (local : Option ℕ) → IsEntered d e old router local → IsEntered d e new router local
    still router None is = kept.at (router, None) router is
    still router (Some local) is = record {
      own = λ l at moved. kept.at (router, Some local) l.to (is.own l at moved);
      reverse = λ l at moved. kept.at (l.to, Some l.remote) router (is.reverse l at moved);
      groups = λ l at on other. kept.at (router, Some local) l.to (is.groups l at (sym kept.groups ∙ on) other);
    }

    by_key : (k : ChangeKey) (b : Change) (t : Bool) → on_key k c ≡ t → cond (on_key k c) (Some c) (last_on k (take i cs)) ≡ Some b → IsEntered d e new k.0 k.1
    by_key k b true on last = subst (λ (q : ChangeKey). IsEntered d e new q.0 q.1) (sym (change_keys_same k (key_changed c) on)) entered
    by_key k b false off last = still k.0 k.1 (before.at k b (ap (λ t. cond t (Some c) (last_on k (take i cs))) (sym off) ∙ last))
