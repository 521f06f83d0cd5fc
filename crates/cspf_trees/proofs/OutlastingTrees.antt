-- If two databases differ only in unreserved bandwidths, each tree of one database is a tree of the
-- other, and a prefix that has only one owner in one database has the same only owner in the other.
use Rattle.std.proofs.Common.{◌≡◌, ℕ, ◌+◌, ◌<◌, ◌⊎◌, IsTrue, Option, Some, None, IfSome, length, slice_index, slice_index_or, refl, sym, ap, subst, inl, inr, ◌∙◌}
use Rattle.std.specs.Prelude.{◌≢◌, bit_and, bit_xor}
use Rattle.std.specs.Option.{option_map}
use Rattle.std.specs.FinSet as set
use Rattle.cspf_addr.specs.PrefixParts.{PrefixParts}
use Rattle.cspf_addr.specs.Prefixes.{Covers}
use Rattle.cspf_model.specs.declared.link.Link.{Link}
use Rattle.cspf_model.specs.declared.request.Request.{Request}
use Rattle.cspf_model.specs.Database.{Database, key_of, link_at, EndsAt, IsLinkOf, IsReverse, IsRouterOf}
use Rattle.cspf_model.specs.Targets.{CoversAddressOf, Owns}
use Rattle.cspf_model.specs.Admissible.{HasAffinity}
use Rattle.cspf_db.specs.Index.{router_list}
use Rattle.cspf_db.specs.Shapes.{shape_of, HaveOneShape, ShapesTellRouters}
use Rattle.cspf_graph.specs.Lists.{IsIndexOf}
use Rattle.cspf_graph.specs.Roles.{MayLeadOver}
use Rattle.cspf_search.specs.declared.tree.Tree.{Tree}
use Rattle.cspf_search.specs.Settled.{IsWithin}
use Rattle.cspf_search.specs.Trees.{IsInClass, IsTree, tree_bound}
use Rattle.cspf_trees.specs.declared.owner_row.OwnerRow.{OwnerRow}
use Rattle.cspf_trees.specs.declared.tree_row.TreeRow.{TreeRow}
use Rattle.cspf_trees.specs.declared.trees.Trees.{Trees}
use Rattle.cspf_trees.specs.Classes.{HasClass}
use Rattle.cspf_trees.specs.LegsInTurn.{IsSoleOwner}
use Rattle.cspf_trees.specs.Trees.{AreTreesOf}
use Rattle.cspf_trees.specs.Laws.{TreesOutlastBandwidth}

-- the database has a link that differs from the link `l` at most in its unreserved bandwidth
record HasShapeOf (d : Database) (l : Link) : Type 0 where
  link : Link
  is_link : IsLinkOf d link
  shape : shape_of link ≡ shape_of l

-- the database meets `HasShapeOf` for the link `l`, if its link at the key of `l` differs from `l`
-- at most in the unreserved bandwidth
at_key : (d : Database) (l : Link) (o : Option Link) → link_at d (key_of l) ≡ o → option_map shape_of o ≡ Some (shape_of l) → HasShapeOf d l
at_key d l None at is = absurd (cc)
at_key d l (Some m) at is =
    let same : shape_of m ≡ shape_of l = cc in
    record {
      link = m;
      is_link = ap (link_at d) (λ i. ((same i).from, (same i).local)) ∙ at;
      shape = same;
    }

-- If the link `r` is the reverse of the link `l`, links with the same shapes as `l` and `r` are
-- also reverses of each other. Links with the same shape differ at most in their unreserved
-- bandwidths.
reversed : (l m r s : Link) → shape_of m ≡ shape_of l → shape_of s ≡ shape_of r → IsReverse l r → IsReverse m s
reversed l m r s there back is = record {
  from = ap (λ t. t.from) back ∙ is.from ∙ sym (ap (λ t. t.to) there);
  local = ap (λ t. t.local) back ∙ is.local ∙ sym (ap (λ t. t.remote) there);
  to = ap (λ t. t.to) back ∙ is.to ∙ sym (ap (λ t. t.from) there);
  remote = ap (λ t. t.remote) back ∙ is.remote ∙ sym (ap (λ t. t.local) there);
}

-- if a link begins or ends at a router, so does each link that differs from it at most in its
-- unreserved bandwidth
ends_alike : (router : ℕ) (l m : Link) → shape_of m ≡ shape_of l → EndsAt router l → EndsAt router m
ends_alike router l m same (inl from) = inl (ap (λ s. s.from) same ∙ from)
ends_alike router l m same (inr to) = inr (ap (λ s. s.to) same ∙ to)

-- a link passes the affinities of a request if a link with the same groups does
passes : (q : Request) (l m : Link) → l.group ≡ m.group → HasAffinity q l → HasAffinity q m
passes q l m same is = record {
  exclude_any = subst (λ g. bit_and g q.exclude_any ≡ 0) same is.exclude_any;
  include_any = subst (λ g. (q.include_any ≡ 0) ⊎ (bit_and g q.include_any ≢ 0)) same is.include_any;
  include_all = subst (λ g. (q.include_all ≡ 0) ⊎ (bit_xor (bit_and g q.include_all) q.include_all ≡ 0)) same is.include_all;
}

module _ (d e : Database) (one : HaveOneShape d e) where
  -- for each link of `e`, the database `d` has a link that differs from it at most in its
  -- unreserved bandwidth
  there_too : (l : Link) → IsLinkOf e l → HasShapeOf d l
  there_too l at = at_key d l (link_at d (key_of l)) refl (sym (one.links (key_of l)) ∙ ap (option_map shape_of) at)

  -- each router of the database `e` is a router of `d`, which differs from `e` only in unreserved
  -- bandwidths
  router_too : (router : ℕ) → IsRouterOf e router → IsRouterOf d router
  router_too router is =
      let m = there_too is.0 is.1 in
      (m.link, m.is_link, ends_alike router is.0 m.link m.shape is.2)

  -- if a prefix covers an address of a router in the database `e`, it covers an address of this
  -- router in `d`
  covered_too : (prefix : PrefixParts) (router : ℕ) → CoversAddressOf e prefix router → CoversAddressOf d prefix router
  covered_too prefix router (inl own) = inl own
  covered_too prefix router (inr by) =
      let m = there_too by.0 by.1 in
      inr (
        m.link,
        m.is_link,
        record {
          from = ap (λ s. s.from) m.shape ∙ by.2.from;
          local = subst (Covers prefix) (ap (λ s. s.local) (sym m.shape)) by.2.local;
        },
      )

  -- if a router owns a prefix in the database `e`, it owns this prefix in `d`
  owns_too : (prefix : PrefixParts) (router : ℕ) → Owns e prefix router → Owns d prefix router
  owns_too prefix router is = record { known = router_too router is.known; covered = covered_too prefix router is.covered }

-- if `d` differs from `e` only in unreserved bandwidths, `e` differs from `d` only in unreserved
-- bandwidths
in_turn : (d e : Database) → HaveOneShape d e → HaveOneShape e d
in_turn d e one = record { marks = sym one.marks; links = λ k. sym (one.links k) }

-- the only owner of a prefix in a database is also its only owner in each database that differs
-- from it only in unreserved bandwidths
owner_kept : (d e : Database) (prefix : PrefixParts) (router : ℕ) → HaveOneShape d e → IsSoleOwner d prefix router → IsSoleOwner e prefix router
owner_kept d e prefix router one is = record {
  owns = owns_too e d (in_turn d e one) prefix router is.owns;
  sole = λ other owns. is.sole other (owns_too d e one prefix other owns);
}

module _ (d e : Database) (one : HaveOneShape d e) (routers : router_list e ≡ router_list d) where
  -- If a link is in a request's class in the database `e`, the link with the same shape in `d` is
  -- also in this class. Links with the same shape differ at most in their unreserved bandwidths. A
  -- link is in a request's class if it has a reverse and passes the request's affinities.
  in_class_too : (q : Request) (l : Link) → IsInClass e q l → (m : HasShapeOf d l) → IsInClass d q m.link
  in_class_too q l is m =
      let back = there_too d e one is.reverse.0 is.reverse.1 in
      record {
        link = m.is_link;
        reverse = (back.link, back.is_link, reversed l m.link is.reverse.0 back.link m.shape back.shape is.reverse.2);
        affinity = passes q l m.link (sym (ap (λ t. t.group) m.shape)) is.affinity;
      }

  -- a router has the same index in the lists of routers of the databases `e` and `d`
  index_too : (router there place : ℕ) → there ≡ router → IsIndexOf e router place → IsIndexOf d there place
  index_too router there place same is = record {
    within = subst (λ rs. place < length rs) routers is.within;
    is = sym (ap (λ rs. slice_index rs place) routers) ∙ is.is ∙ sym same;
  }

  -- if a way may lead over a router in the database `e`, it may lead over this router in `d`
  over_too : (q : Request) (router there : ℕ) → there ≡ router → MayLeadOver e q router → MayLeadOver d q there
  over_too q router there same (inl transit) = inl (λ marked. transit (subst (λ r. IsTrue (set.contains e.marks r)) same (subst (λ s. IsTrue (set.contains s there)) (sym one.marks) marked)))
  over_too q router there same (inr end) = inr (same ∙ end)

  -- a tree of the database `d` is a tree of `e`, which differs from `d` only in unreserved
  -- bandwidths
  tree_too : (q : Request) (tree : Tree) → IsTree d q tree → IsTree e q tree
  tree_too q tree is = record {
    links = λ u w l in_class over from to.
        let m = there_too d e one l in_class.link in
        let shape = m.shape in
        subst (IsWithin (tree_bound tree u) (tree_bound tree w)) (ap (λ t. t.metric) shape)
        (is.links u w m.link (in_class_too q l in_class m) (over_too q l.to m.link.to (ap (λ t. t.to) shape) over) (index_too l.from m.link.from u (ap (λ t. t.from) shape) from) (index_too l.to m.link.to w (ap (λ t. t.to) shape) to));
    end = λ place at. is.end place (index_too q.to q.to place refl at);
    fewer = λ u w l in_class over from to just.
        let m = there_too d e one l in_class.link in
        let shape = m.shape in
        is.fewer u w m.link (in_class_too q l in_class m) (over_too q l.to m.link.to (ap (λ t. t.to) shape) over) (index_too l.from m.link.from u (ap (λ t. t.from) shape) from) (index_too l.to m.link.to w (ap (λ t. t.to) shape) to)
        (just ∙ ap (λ t. tree_bound tree w + t.metric) (sym shape));
    end_links = λ place at. is.end_links place (index_too q.to q.to place refl at);
  }

pub trees_outlast : ShapesTellRouters → TreesOutlastBandwidth
trees_outlast tells d e q tree one is = tree_too d e one (tells d e one) q tree is

-- the tree of a row is still a tree of the database after a change of unreserved bandwidths only
row_kept : (d e : Database) (row : TreeRow) → TreesOutlastBandwidth → HaveOneShape d e → (o : Option Tree) → IfSome o (λ tree. (q : Request) → HasClass q row.class → IsTree d q tree) → IfSome o (λ tree. (q : Request) → HasClass q row.class → IsTree e q tree)
row_kept d e row law one None is = tt
row_kept d e row law one (Some tree) is = λ q class. law d e q tree one (is q class)

-- kept trees are still trees of the database after a change of unreserved bandwidths only
pub trees_kept : (d e : Database) (trees : Trees) → TreesOutlastBandwidth → HaveOneShape d e → AreTreesOf d trees → AreTreesOf e trees
unfolding AreTreesOf
trees_kept d e trees law one are = (
  λ k r h now. row_kept d e (slice_index_or trees.rows.items k r) law one _ (are.0 k r h now),
  λ k r h now.
      let row : OwnerRow = slice_index_or trees.owners.rows.items k r in
      owner_kept d e row.prefix row.router one (are.1 k r h now),
)
