-- The links and the marks of a database that one batch makes. The batch first puts links, and then
-- marks routers as without transit.
use Rattle.std.proofs.Common.{◌≡◌, ℕ, true, false, cond, Some, None, List, [], ◌∷◌, ◌++◌, map, refl, sym, ap, subst, ◌∙◌}
use Rattle.std.specs.Ordering.{eq_by_cmp}
use Rattle.std.specs.List.{AllByRecursion}
use Rattle.std.specs.FinMap as finite
use Rattle.std.specs.FinSet as set
use Rattle.cspf_model.specs.declared.link.Link.{Link}
use Rattle.cspf_model.specs.declared.batch.Change.TheVariants.{Put, Node}
use Rattle.cspf_model.specs.Database.{Database, Key, key_of, key_cmp, link_at, IsLinkOf}
use Rattle.cspf_model.specs.Changes.{after_change, after_changes, no_links, link_key, mark_key, last_on, link_after, mark_after}
use Rattle.cspf_model.specs.NetworkLaws.{network_batch, network}
use Rattle.cspf_model.proofs.Databases.Keys.{keys_total}
use Rattle.cspf_model.proofs.Databases.LastChanges.{last_decides}

-- Changes that only mark routers as without transit don't change the links of the database.
marks_over : (d : Database) (marks : List ℕ) → (after_changes d (map (λ r. Node r false) marks ++ [])).links ≡ d.links
marks_over d [] = refl
marks_over d (r ∷ marks) = marks_over (after_change d (Node r false)) marks

links_alone : (d : Database) (links : List Link) (marks : List ℕ)
    → (after_changes d ((map (λ l. Put l) links ++ map (λ r. Node r false) marks) ++ [])).links
    ≡ (after_changes d ((map (λ l. Put l) links ++ []) ++ [])).links
links_alone d [] marks = marks_over d marks
links_alone d (l ∷ links) marks = links_alone (after_change d (Put l)) links marks

-- At each key, the network has the link that the last `Put` change with this key puts, or no link
-- if there is no such change. The marks don't matter.
pub link_at-network : (links : List Link) (marks : List ℕ) (k : Key)
    → link_at (network links marks) k ≡ link_after (last_on (link_key k) ((network_batch links []).changes ++ [])) None
link_at-network links marks k =
    ap (λ (m : finite.FinMap key_cmp Link). finite.get m k) (links_alone no_links links marks)
    ∙ (last_decides (network_batch links [] ∷ [])).at k

-- A router of the network is marked as without transit exactly if the last change of its transit in
-- the network's batch takes the transit away.
pub marks-network : (links : List Link) (marks : List ℕ) (router : ℕ)
    → set.contains (network links marks).marks router ≡ mark_after (last_on (mark_key router) ((network_batch links marks).changes ++ [])) false
marks-network links marks router = (last_decides (network_batch links marks ∷ [])).marked router

-- In this part, `P` is a property of links. Suppose that `P` holds of each link of a database and
-- of the link that a change puts. Then `P` holds of each link of the database after the change.
module _ (P : Link → Type 0) where
  put_one : (d : Database) (m : Link) → P m → ((l : Link) → IsLinkOf d l → P l)
      → (l : Link) → IsLinkOf (after_change d (Put m)) l → P l
  put_one d m holds before l is =
      elim (eq_by_cmp key_cmp (key_of l) (key_of m)) as (λ b. cond b (Some m) (link_at d (key_of l)) ≡ Some l → P l) [
        | true ↦ λ here. let same : m ≡ l = cc in subst P same holds
        | false ↦ λ there. before l there
      ] (sym (finite.get-insert keys_total d.links (key_of m) m (key_of l)) ∙ is)

  marks_alone : (d : Database) (marks : List ℕ) → ((l : Link) → IsLinkOf d l → P l)
      → (l : Link) → IsLinkOf (after_changes d (map (λ r. Node r false) marks ++ [])) l → P l
  marks_alone d [] before l is = before l is
  marks_alone d (r ∷ marks) before l is = marks_alone (after_change d (Node r false)) marks before l is

  puts : (d : Database) (links : List Link) (marks : List ℕ) → AllByRecursion P links
      → ((l : Link) → IsLinkOf d l → P l)
      → (l : Link) → IsLinkOf (after_changes d ((map (λ m. Put m) links ++ map (λ r. Node r false) marks) ++ [])) l → P l
  puts d [] marks all before l is = marks_alone d marks before l is
  puts d (m ∷ links) marks all before l is = puts (after_change d (Put m)) links marks all.1 (put_one d m all.0 before) l is

  -- If `P` holds of each link in `links`, `P` holds of each link of the network.
  pub each_link : (links : List Link) (marks : List ℕ) → AllByRecursion P links
      → (l : Link) → IsLinkOf (network links marks) l → P l
  each_link links marks all l is = puts no_links links marks all none l is
    where
      none : (l : Link) → IsLinkOf no_links l → P l
      none l is = absurd (some_none (sym (finite.get-empty key_cmp (key_of l)) ∙ is))
        where
          some_none : None ≡ Some l → ⊥
          some_none e = cc
