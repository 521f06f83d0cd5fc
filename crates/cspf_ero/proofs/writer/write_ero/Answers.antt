use Rattle.std.proofs.Common.{◌≡◌, ◌++◌, ◌+◌, ◌*◌, length, take, refl, ap, ◌∙◌, arith}
use Rattle.std.proofs.lemmas.List.{take_all}
use Rattle.std.specs.List.{flat_map}
use Rattle.cspf_ero.specs.Objects.{object_of, header, subobject_of}
use Rattle.cspf_ero.proofs.Writing.{length-object_of, field-object_of}
use Rattle.cspf_ero.proofs.writer.write_ero.Goals as goal

pub returns-clause-object : goal.returns-clause-object
unfolding object_of
returns-clause-object c =
    let links = c.args.route.now in
    let first : c.extend_from_slice.new.self.items ≡ header (4 + 8 * length links) =
    c.in_ok-extend_from_slice.ensures.items ∙ rw (c.in_ok-object.ensures.items, c.to_be_bytes.ensures, c.links-links.ensures.value) refl in
    let all : take c.loop-link.link-index links ≡ links = take_all c.loop-link.link-index links (rw c.links-links.ensures.value at c.loop-link-test.false) in
    let so_far : c.loop-link.object.items ≡ c.extend_from_slice.new.self.items ++ flat_map subobject_of (take c.loop-link.link-index links) = rw c.links-links.ensures.value at c.loop-link.invariant in
    so_far ∙ rw (first, all) refl

pub returns-clause-length : goal.returns-clause-length
returns-clause-length c = ap length (returns-clause-object c) ∙ length-object_of c.args.route.now

pub returns-clause-most : goal.returns-clause-most
returns-clause-most c = omega (arith, returns-clause-length c, c.links-links.ensures.most)

pub returns-clause-field : goal.returns-clause-field
returns-clause-field c =
    rw (returns-clause-object c) (field-object_of c.args.route.now c.links-links.ensures.most)
