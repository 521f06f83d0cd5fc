-- Private: the memory that a handle owns.
use base.Fml.{Fml, feq}
use mir.Syntax.{Ty}
use denote.RattleType.{RattleType}
use denote.RawPtr.{Ptr, null_ptr}
use Rattle.std.specs.declared.option.Option.{Option}
use Rattle.std.specs.declared.option.Option.TheVariants.{None, Some}
use Rattle.std.specs.declared.alloc.Global.{Global}
use Rattle.std.specs.contracts.impls.GlobalAllocator.TheImpl.{ghosts}
use Rattle.std.specs.Box.Ownership.{box_owns}

-- the heap of the C library
abbrev pub heap : Global
heap = record { memory = record { seal = tt } }

-- the right to free a block of this heap
abbrev pub may_free : Ty → Ptr → Fml
may_free = ghosts.dealloc_token heap

-- If the pointer is null, the handle has no session. Any other pointer points to a box in this
-- heap, and the session is in this box.
abbrev pub holds : (R : RattleType) → Ptr → Option R.Denot → Fml
holds R p None = feq Ptr p null_ptr
holds R p (Some x) = box_owns may_free R p x
