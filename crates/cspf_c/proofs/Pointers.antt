-- The machine values of a handle and of a box, and the session that a handle holds. The lemmas
-- assume the laws of the program logic (`Logic`).
use Rattle.std.proofs.Common.{◌≡◌, ℕ, List, [], ◌∷◌, refl, sym, ap, ◌∙◌, lit<}
use Prim.Native.Nat.{zero}
use seplogic.Ra.Ura.{Ura}
use lib.Dec.{T}
use mathlib.Core.Bool.{true, ◌&&◌}
use mir.Val.{Val, vstruct, vcons, vnil, has_ty, WT}
use types.Logic.{Logic}
use types.Kit.{Item, Goal, Seq, Step, step, ‵, given, learn, use1, rewrite, feq_l, move, fsplit, ◌$◌, fjoin}
use denote.Laws.{Is, Tells, Lawful}
use denote.RattleType.{RattleType}
use denote.RawPtr.{Ptr, block_ptr, null_ptr, ptr_val, count_of, in_a_block}
use denote.Memory.{lone}
use contract.Monad.{fact_use}
use Rattle.std.specs.Box.Ownership.{box_owns}
use Rattle.core.specs.Ptr.{points_to}
use Rattle.std.proofs.GlobalToken.{dealloc_token_start}
use Rattle.std.specs.declared.option.Option.TheVariants.{None, Some}
use denote.Steps.{owned}
use denote.Struct.Field.{row_field}
use denote.Struct.Laws.{FLaws, RawPtr-laws, RawPtr-plain}
use denote.Struct.Owning.{shape}
use denote.Struct.OwningLaws.{Laws, vals, tells, lawful}
use denote.Struct.Struct.{Struct, Struct-Makes}
use Rattle.std.specs.declared.option.Option.{Option}
use Rattle.std.specs.contracts.alloc.Global as global
use Rattle.std.proofs.alloc.Global.TheLaws as global_laws
use Rattle.std.specs.contracts.impls.GlobalAllocator.TheImpl.{ghosts}
use Rattle.std_alloc.specs.contracts.boxed.Box as boxed
use mir.Syntax.{Ty, ty_ptr}
use mir.Raw.{raw as bare}
use base.Logic.{id⊢, guard_i}
use types.Logic.{sem}
use Rattle.cspf_c.specs.Holding.{heap, may_free, holds}
use Rattle.cspf_c.specs.contracts.handle.Handle as handle
use Rattle.cspf_c.proofs.handle.Handle.TheLaws as the_laws
use Rattle.cspf_c.specs.contracts.opened.Opened as opened

abbrev pub Handle : RattleType
Handle = handle.the_row

abbrev pub Opened : RattleType
Opened = opened.the_row

-- the type of the allocator, which allocates memory from the C library
abbrev pub Memory : RattleType
Memory = global.the_row

abbrev pub Boxed : RattleType
Boxed = boxed.the_row Opened Memory ghosts

abbrev memory_field : FLaws (row_field Memory)
memory_field = record {
  val = global_laws.the_told.val;
  tells = global_laws.the_told.tells;
  low = global_laws.the_told.val;
  low-is = global_laws.the_told.tells;
  lawful = global_laws.the_row_laws.lawful;
  drops = global_laws.the_row_laws.drops;
}

abbrev box_laws : Laws (boxed.the_type Opened Memory ghosts)
box_laws = (RawPtr-laws, (memory_field, tt))

-- the machine values of a box in memory
abbrev pub box_words : Boxed.Denot → List Val
box_words = vals (boxed.the_type Opened Memory ghosts) box_laws

pub box_tells : Tells Boxed (Is Boxed) box_words
box_tells = tells (boxed.the_type Opened Memory ghosts) box_laws

pub pointer_typed : (p : Ptr) → T (has_ty ty_ptr (ptr_val p)) × WT (ptr_val p)
pointer_typed (block_ptr b o) = (tt, tt)
pointer_typed null_ptr = (tt, record { fits = lit< tt })

pub box_typed : (p : Ptr) → T (has_ty ty_ptr (ptr_val p) && true) × (WT (ptr_val p) × (((Unit {0} × Unit {0}) × Unit {0}) × Unit {0}))
box_typed (block_ptr b o) = (tt, (tt, (((tt, tt), tt), tt)))
box_typed null_ptr = (tt, (record { fits = lit< tt }, (((tt, tt), tt), tt)))

-- the machine value of a handle with this pointer
abbrev pub handle_word : Ptr → Val
handle_word p = vstruct (vcons (ptr_val p) vnil)

pub handle_typed : (p : Ptr) → T (has_ty the_laws.mir (handle_word p)) × WT (handle_word p)
handle_typed (block_ptr b o) = (tt, (tt, tt))
handle_typed null_ptr = (tt, (record { fits = lit< tt }, tt))

pub box_fits : {M : Type 1} {𝓤 : Ura M} (𝓛 : Logic 𝓤) → Lawful 𝓛 Boxed
box_fits = lawful (boxed.the_type Opened Memory ghosts) box_laws

pub handle_tells : Tells Handle (Is Handle) (λ h. handle_word h.at ∷ [])
handle_tells = the_laws.lowers.val_is

abbrev pub memory_words : Memory.Denot → List Val
memory_words m = global_laws.the_told.val m ∷ []

pub memory_tells : Tells Memory (Is Memory) memory_words
memory_tells = global_laws.the_told.tells

-- the type of the memory block of a session; `may_free room p` is the right to free the block at
-- `p`
abbrev room : Ty
room = bare (lone Opened.mir)

module _ {M : Type 1} {𝓤 : Ura M} {𝓛 : Logic 𝓤} {K : Type 0} {Γ : List (Item 𝓤)} {G : Goal 𝓤 𝓛.H} where
  -- A proof about a handle's pointer has two cases. Either the pointer is null, and the handle has
  -- no session. Or the pointer is to the first byte of a block that has the session.
  pub what_is_held : K → (p : Ptr) (value : Option Opened.Denot) → (value ≡ None → p ≡ null_ptr → Seq K 𝓛 Γ G)
      → ((x : Opened.Denot) (b : ℕ) → value ≡ Some x → p ≡ block_ptr b 0 → Seq K 𝓛 (‵ (box_owns may_free Opened (block_ptr b 0) x) ∷ Γ) G) → Seq K 𝓛 (‵ (holds Opened p value) ∷ Γ) G
  what_is_held t p None none some = feq_l t (λ e. none refl e)
  what_is_held t p (Some x) none some = fsplit t $ move t (1 ∷ []) $
      use1 𝓛 (given (count_of p ≡ zero) (‵ (may_free room p))) (fact_use 𝓤 (count_of p ≡ zero) (dealloc_token_start 𝓛 heap room p) (guard_i 𝓤 (count_of p ≡ zero) (sem 𝓛 (may_free room p)))) $ learn t (λ first.
      move t (1 ∷ []) $ in_a_block t p (λ q. points_to Opened q x) (id⊢ 𝓤 _) (λ b o e.
      let zeroth : o ≡ 0 = sym (ap count_of e) ∙ first in let at : p ≡ block_ptr b 0 = e ∙ ap (λ (n : ℕ). block_ptr b n) zeroth in
      rewrite t 0 (λ (n : ℕ). ‵ (points_to Opened (block_ptr b n) x)) zeroth refl $ rewrite t 1 (λ (q : Ptr). ‵ (may_free room q)) at refl $
      fjoin t $ some x b refl at))

module _ {M : Type 1} {𝓤 : Ura M} {𝓛 : Logic 𝓤} {K : Type 0} {Γ : List (Item 𝓤)} {G : Goal 𝓤 𝓛.H} where
  -- a handle consists of a pointer, and of the session at this pointer, if any
  pub handle_of : K → (p : Ptr) (value : Option Opened.Denot)
      → Step K 𝓛 (‵ (Handle.own_val (record { at = p; value = value }) (handle_word p ∷ [])) ∷ Γ) G (‵ (holds Opened p value) ∷ Γ) G
  handle_of t p value = step (λ s.
      let Fields : RattleType = Struct (shape handle.the_type) in
      owned t Fields (Is Fields) (Struct-Makes 𝓛 (shape handle.the_type) (RawPtr-plain, tt)) (p, tt) (handle_word p ∷ []) ((ptr_val p ∷ [], tt), (refl, (refl, tt))) $ fjoin t $ s)
