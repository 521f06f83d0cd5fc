-- How a call passes its arguments to a generic function. The type parameters of this function are a
-- session and the allocator of the session's box. The lemmas assume the laws of the program logic
-- (`Logic`).
use Rattle.std.proofs.Common.{[], ◌∷◌, refl}
use seplogic.Ra.Ura.{Ura}
use types.Logic.{Logic}
use types.Kit.{◌$◌, fjoin}
use denote.RattleType.{RattleType}
use Rattle.std.proofs.alloc.Global.TheLaws as global_laws
use mir.Syntax.{Dict, impl, tnil, tcons, dnil, Callee, method, no_args}
use denote.Param.{layout, arg}
use denote.Exit.{no}
use mir.Raw.{raw as bare}
use denote.Param.Laws as param
use prog.Model.{Model}
use prog.Wired.{Wired}
use contract.Running.{Running}
use base.Logic.{emp, emp∗, sep, snd∗, via}
use base.Fml.{ftrue, fsep}
use types.Logic.{sem}
use types.Kit.{qed, ◌∵◌, !, show, done, move}
use denote.Param.Glue as glue
use denote.Param.NoDrop.{glues}
use denote.Steps.{nothing}
use Rattle.cspf_c.proofs.Destruct++none.drop.Code as none_drop
use denote.Triple.Carry.{beside, spared}
use denote.Triple.Spec.{Spec, triple_of}
use denote.Triple.Table.{run_framed, widened}
use Rattle.cspf_c.specs.contracts.cspf_c++opened++Opened+Destruct.drop as drop
use Rattle.cspf_c.proofs.cspf_c++opened++Opened+Destruct.drop.Symbol.{code, as_method, name}
use Rattle.cspf_c.proofs.cspf_c++opened++Opened+Destruct.drop.Met.{met}
use Rattle.cspf_c.proofs.opened.Opened.TheLaws as opened_facts
use Rattle.cspf_c.proofs.Pointers.{Opened, Memory}

-- the form in which a call passes a value of this type
abbrev pub passed : RattleType → RattleType
passed R = arg (bare (layout R)) no R

abbrev pub opened_laws : param.Laws (passed Opened)
opened_laws = param.arg_laws (bare (layout Opened)) no Opened opened_facts.the_row_laws refl

abbrev pub memory_laws : param.Laws (passed Memory)
memory_laws = param.arg_laws (bare (layout Memory)) no Memory global_laws.the_row_laws refl

abbrev pub memory_drop : Dict
memory_drop = impl ("cspf_c::Destruct++none::drop" ∷ []) (tcons (layout (passed Memory)) tnil) dnil

abbrev pub opened_drop : Dict
opened_drop = impl ("cspf_c::cspf_c++opened++Opened+Destruct::drop" ∷ []) tnil dnil

-- dropping the allocator runs no code
pub memory_glue : {M : Type 1} (𝓤 : Ura M) (𝓛 : Logic 𝓤) (𝓜 : Model 𝓤 𝓛.H) (𝓡 : Running 𝓤 𝓛.H 𝓜) → Wired 𝓡.env none_drop.code → glue.Met 𝓛 𝓜 𝓡 𝓡.env (passed Memory) memory_drop
unfolding none_drop.code
memory_glue 𝓤 𝓛 𝓜 𝓡 wired = glues "cspf_c::Destruct++none::drop" 𝓡.env wired (passed Memory) memory_laws _ 𝓤 𝓛 𝓜 𝓡

-- dropping a session frees all memory that the session owns, whatever lifetime the call is given
pub opened_glue : {M : Type 1} (𝓤 : Ura M) (𝓛 : Logic 𝓤) (𝓜 : Model 𝓤 𝓛.H) (𝓡 : Running 𝓤 𝓛.H 𝓜) → Wired 𝓡.env code → glue.Met 𝓛 𝓜 𝓡 𝓡.env (passed Opened) opened_drop
opened_glue 𝓤 𝓛 𝓜 𝓡 wired =
    let k : Callee = method opened_drop 0 no_args in let run = 𝓡.run (𝓡.env k) in let framed = run_framed 𝓤 𝓛.H 𝓜 𝓡 (𝓡.env k) in
    let said : Spec 𝓤 drop.signature = drop.spec 𝓛 𝓜.mem 𝓡.returns in
    let gone : Spec 𝓤 drop.signature = λ κs a. record { ghost = Unit {0}; requires = λ _. emp 𝓤; ensures = λ g r. (glue.spent 𝓛 (passed Opened) ([], tt) a).ensures g r } in
    spared 𝓛 drop.signature run framed 1 ([], tt) gone
    (beside 𝓛 drop.signature run framed said gone (λ κs a g. g) (λ κs a g. emp 𝓤) (λ κs a g. emp∗ 𝓤 (emp 𝓤))
    (λ κs a g r. via 𝓤 (emp 𝓤) (snd∗ 𝓤 ((said κs a).ensures g r) (emp 𝓤))
    (qed 𝓛 [] ∵ show ! (λ (ws : Unit {0} × Unit {0}). sep 𝓤 (sem 𝓛 (fsep ftrue ftrue)) (emp 𝓤)) (tt, tt) $ nothing ! $ nothing ! $ fjoin ! $ nothing ! $ move ! (1 ∷ []) $ done !))
    (widened 𝓤 𝓛.H (triple_of 𝓛 drop.signature said) 𝓜 𝓡 𝓡.env (𝓡.env name) (𝓡.env k) (as_method 𝓡.env wired k refl) (met 𝓤 𝓛 𝓜 𝓡 wired)))
