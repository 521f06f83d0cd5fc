use Rattle.std.proofs.Common.{subst}
use Rattle.std.specs.Ordering.{eq_by_cmp}
use Rattle.std.specs.List.{IsDistinct}
use Rattle.std.proofs.lemmas.Cmp.{eq_by_cmp_equiv}
use Rattle.std.proofs.lemmas.List.Sorted.{IsPermutation-sym}
use Rattle.std.proofs.lemmas.Map.Keys.{IsDistinct-IsPermutation}
use Rattle.cspf_model.specs.Changes.{change_key_cmp}
use Rattle.cspf_model.proofs.Databases.Keys.{change_keys_total}
use Rattle.cspf_db.proofs.table.fit.repeats.are_apart_in.Goals as goal

pub returns : goal.returns
returns c rising =
    subst (IsDistinct (eq_by_cmp change_key_cmp)) c.list_keys.ensures
    (IsDistinct-IsPermutation (eq_by_cmp change_key_cmp) (eq_by_cmp_equiv change_keys_total).symm _ _ (IsPermutation-sym _ _ c.sort_unstable.ensures.permutation) (c.rise.ensures rising))
