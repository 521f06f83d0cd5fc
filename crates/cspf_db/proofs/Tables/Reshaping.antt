-- Lemmas on changes that keep the shape of a database, and on changes that change its shape. The
-- shape is everything in the database except unreserved bandwidths.
use Rattle.std.proofs.Common.{◌≡◌, Bool, true, false, not, ◌||◌, cond, Option, Some, None, is_some, List, [], ◌∷◌, map, refl, rules, arith}
use Rattle.std.proofs.lemmas.Grind.{common_steps}
use Rattle.std.specs.Ordering.{eq_by_cmp}
use Rattle.std.specs.Option.{option_map, option_map_or}
use Rattle.std.specs.List.{list_any, IsDistinct, AllByRecursion}
use Rattle.std.specs.Cmp.{nat_cmp_total, eq_by_cmp_equiv}
use Rattle.std.specs.FinMap.{get-insert, get-remove}
use Rattle.std.specs.FinSet as set
use Rattle.cspf_model.specs.declared.link.Link.{Link}
use Rattle.cspf_model.specs.declared.batch.Change.{Change}
use Rattle.cspf_model.specs.declared.batch.Change.TheVariants.{Put, Remove, Node}
use Rattle.cspf_model.specs.Database.{Database, key_of, link_at}
use Rattle.cspf_model.specs.Changes.{change_key_cmp, key_changed, after_change, after_changes}
use Rattle.cspf_model.specs.Refusals.{AreOnceEach}
use Rattle.cspf_db.specs.Shapes.{Shape, shape_of, HaveOneShape}
use Rattle.cspf_db.specs.Tables.Reshaping.{is_shape, reshapes}
use Rattle.cspf_model.proofs.Databases.Keys.{keys_total, key_itself, keys_same}
use Rattle.cspf_model.proofs.Databases.LastChanges.{link_at-after_change, after_mark, tied_alone}
use Rattle.cspf_db.proofs.Tables.MarkChanges.{marks-same}

-- If `is_shape` is true of two shapes of links, the shapes are equal.
one_shape : (s t : Shape) → is_shape s t ≡ true → s ≡ t
one_shape s t on = search rules

-- If putting the link `l` changes at most unreserved bandwidths, the database already has a link
-- with the key of `l` that equals `l` except for unreserved bandwidths.
put_kept : (o : Option Link) (l : Link) → not (option_map_or (λ m. is_shape (shape_of m) (shape_of l)) o false) ≡ false → option_map shape_of o ≡ Some (shape_of l)
put_kept o l on = search rules

-- If the option `o` is `None`, mapping it to a shape gives `None`.
none_there : (o : Option Link) → is_some o ≡ false → option_map shape_of o ≡ None
none_there o off = grind (arith, common_steps)

some_there : (o : Option Link) → is_some o ≡ true → option_map shape_of o ≡ None → ⊥
some_there o on is = search rules

-- If a change of a router's transit changes nothing, the router was marked before the change
-- exactly if the change marks it as without transit.
mark_kept : (marked transit : Bool) → cond transit marked (not marked) ≡ false → marked ≡ not transit
mark_kept marked transit off = search rules

-- Suppose that a change changes at most unreserved bandwidths of `d`, and that the database `e`
-- differs from `d` at most in unreserved bandwidths. After the change, `e` still differs from `d`
-- at most in unreserved bandwidths.
one_keeps : (d e : Database) (c : Change) → reshapes d c ≡ false → HaveOneShape d e → HaveOneShape d (after_change e c)
one_keeps d e c off is = search (rules, get-insert, get-remove, keys_same, keys_total, mark_kept, marks-same, none_there, put_kept)

all_keep : (d e : Database) (cs : List Change) → list_any (reshapes d) cs ≡ false → HaveOneShape d e → HaveOneShape d (after_changes e cs)
all_keep d e [] off is = is
all_keep d e (c ∷ cs) off is =
    elim (reshapes d c) as (λ b. reshapes d c ≡ b → (b || list_any (reshapes d) cs) ≡ false → HaveOneShape d (after_changes (after_change e c) cs)) [
      | true ↦ λ _ bad. absurd (cc)
      | false ↦ λ no rest. all_keep d (after_change e c) cs rest (one_keeps d e c no is)
    ] refl off

-- If each of the changes changes at most unreserved bandwidths, the databases before and after the
-- changes differ at most in unreserved bandwidths.
pub shape_kept : (d : Database) (cs : List Change) → list_any (reshapes d) cs ≡ false → HaveOneShape d (after_changes d cs)
shape_kept d cs off = all_keep d d cs off (record { marks = refl; links = λ k. refl })

-- The database `e` has the effect of the change. If the change puts a link, `e` has this link. If
-- the change removes a link, `e` has no link at this key. If the change is a change of a router's
-- transit, `e` marks the router exactly if the change takes its transit away.
abbrev HasLeft : Database → Change → Type 0
HasLeft e (Put l) = link_at e (key_of l) ≡ Some l
HasLeft e (Remove from local) = link_at e (from, local) ≡ None
HasLeft e (Node router transit) = set.contains e.marks router ≡ not transit

-- After a change, `HasLeft` holds of the database and this change.
left_first : (d : Database) (c : Change) → HasLeft (after_change d c) c
left_first d c = search (rules, after_mark, eq_by_cmp_equiv, get-insert, get-remove, key_itself, keys_total, nat_cmp_total)

-- Suppose that `HasLeft` holds of a database and the change `c`. After a change with another key,
-- `HasLeft` still holds of the new database and `c`.
left_then : (e : Database) (c b : Change) → eq_by_cmp change_key_cmp (key_changed c) (key_changed b) ≡ false → HasLeft e c → HasLeft (after_change e b) c
left_then e c b apart is = search (rules, after_mark, link_at-after_change, tied_alone)

left_at_last : (e : Database) (c : Change) (cs : List Change) → AllByRecursion (λ k. eq_by_cmp change_key_cmp (key_changed c) k ≡ false) (map key_changed cs) → HasLeft e c → HasLeft (after_changes e cs) c
left_at_last e c [] apart is = is
left_at_last e c (b ∷ cs) apart is = left_at_last (after_change e b) c cs apart.1 (left_then e c b apart.0 is)

-- After changes with distinct keys, `HasLeft` holds of the database and each of these changes.
each_left : (d : Database) (cs : List Change) → AreOnceEach cs → AllByRecursion (HasLeft (after_changes d cs)) cs
unfolding IsDistinct
each_left d [] once = tt
each_left d (c ∷ cs) once = (left_at_last (after_change d c) c cs once.0 (left_first d c), each_left (after_change d c) cs once.1)

-- If a change changes more of `d` than unreserved bandwidths, and `HasLeft` holds of `e` and this
-- change, then `d` and `e` differ in more than unreserved bandwidths.
one_changes : (d e : Database) (c : Change) → HasLeft e c → reshapes d c ≡ true → HaveOneShape d e → ⊥
one_changes d e c left on is = search rules

any_changes : (d e : Database) (cs : List Change) → AllByRecursion (HasLeft e) cs → list_any (reshapes d) cs ≡ true → HaveOneShape d e → ⊥
any_changes d e [] left on is = cc
any_changes d e (c ∷ cs) left on is =
    elim (reshapes d c) as (λ b. reshapes d c ≡ b → (b || list_any (reshapes d) cs) ≡ true → ⊥) [
      | true ↦ λ yes _. one_changes d e c left.0 yes is
      | false ↦ λ _ rest. any_changes d e cs left.1 rest is
    ] refl on

-- Suppose that changes have distinct keys, and that one of them changes more of a database than
-- unreserved bandwidths. Then the databases before and after the changes differ in more than
-- unreserved bandwidths.
pub shape_changed : (d : Database) (cs : List Change) → AreOnceEach cs → list_any (reshapes d) cs ≡ true → HaveOneShape d (after_changes d cs) → ⊥
shape_changed d cs once on is = any_changes d (after_changes d cs) cs (each_left d cs once) on is
