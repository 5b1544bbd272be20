-- The step that a step of the program states.
use Rattle.std.specs.Prelude.{ℕ}
use Rattle.ft_items.specs.Item.{by_var, by_generic, by_meta, by_metacong, by_abs, by_subst, by_substeq, by_refl, by_sym, by_trans, by_conv, by_conveq, by_left, by_right, by_typeof, by_domain, by_boundary, by_widen, by_btype, by_bterm, by_beqty, by_beqtm, by_rule, by_rulewith, by_inst, by_cong, by_convprem, by_convback, by_arg, by_natural, Stated}
use Rattle.ft_kernel.specs.declared.step.Part.{Part}
use Rattle.ft_kernel.specs.declared.step.Part.TheVariants as part
use Rattle.ft_kernel.specs.declared.step.Step.{Step}
use Rattle.ft_kernel.specs.declared.step.Step.TheVariants as step

-- the number of an entry, whatever it is
abbrev pub entry_of : Part → ℕ
entry_of (part.Thesis j) = j
entry_of (part.Boundary b) = b

-- the step, by the numbers of what it names
abbrev pub step_of : Step → Stated
step_of (step.Var v) = by_var v
step_of (step.Generic m) = by_generic m
step_of (step.Meta m ps) = by_meta m ps
step_of (step.Metacong m es) = by_metacong m es
step_of (step.Abs v p) = by_abs v (entry_of p)
step_of (step.Subst p t) = by_subst (entry_of p) t
step_of (step.Substeq p e) = by_substeq p e
step_of (step.Refl p) = by_refl p
step_of (step.Sym p) = by_sym p
step_of (step.Trans p q) = by_trans p q
step_of (step.Conv p e) = by_conv p e
step_of (step.Conveq p e) = by_conveq p e
step_of (step.Left p) = by_left (entry_of p)
step_of (step.Right p) = by_right (entry_of p)
step_of (step.Typeof p) = by_typeof (entry_of p)
step_of (step.Domain p) = by_domain (entry_of p)
step_of (step.Boundary p) = by_boundary p
step_of (step.Widen p q) = by_widen p q
step_of step.Btype = by_btype
step_of (step.Bterm p) = by_bterm p
step_of (step.Beqty p q) = by_beqty p q
step_of (step.Beqtm p s t) = by_beqtm p s t
step_of (step.Rule r ps) = by_rule r ps
step_of (step.Rulewith r b ps) = by_rulewith r b ps
step_of (step.Inst r ps) = by_inst r ps
step_of (step.Cong r ps es) = by_cong r ps es
step_of (step.Convprem r ps es q) = by_convprem r ps es q
step_of (step.Convback r ps es q) = by_convback r ps es q
step_of (step.Arg i p) = by_arg i p
step_of (step.Natural p) = by_natural p
