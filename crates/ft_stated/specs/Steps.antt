-- The step that a step of a file states.
use Rattle.ft_items.specs.Item.{by_var, by_generic, by_meta, by_metacong, by_abs, by_subst, by_substeq, by_refl, by_sym, by_trans, by_conv, by_conveq, by_left, by_right, by_typeof, by_domain, by_boundary, by_widen, by_btype, by_bterm, by_beqty, by_beqtm, by_rule, by_rulewith, by_inst, by_cong, by_convprem, by_convback, by_arg, by_natural, Stated}
use Rattle.ft_stated.specs.declared.step.StatedStep.{StatedStep}
use Rattle.ft_stated.specs.declared.step.StatedStep.TheVariants as step

-- the step, by the numbers of what it names
abbrev pub stated_step : StatedStep → Stated
stated_step (step.Var v) = by_var v
stated_step (step.Generic m) = by_generic m
stated_step (step.Meta m ps) = by_meta m ps
stated_step (step.Metacong m es) = by_metacong m es
stated_step (step.Abs v p) = by_abs v p
stated_step (step.Subst p t) = by_subst p t
stated_step (step.Substeq p e) = by_substeq p e
stated_step (step.Refl p) = by_refl p
stated_step (step.Sym p) = by_sym p
stated_step (step.Trans p q) = by_trans p q
stated_step (step.Conv p e) = by_conv p e
stated_step (step.Conveq p e) = by_conveq p e
stated_step (step.Left p) = by_left p
stated_step (step.Right p) = by_right p
stated_step (step.Typeof p) = by_typeof p
stated_step (step.Domain p) = by_domain p
stated_step (step.Boundary p) = by_boundary p
stated_step (step.Widen p q) = by_widen p q
stated_step step.Btype = by_btype
stated_step (step.Bterm p) = by_bterm p
stated_step (step.Beqty p q) = by_beqty p q
stated_step (step.Beqtm p s t) = by_beqtm p s t
stated_step (step.Rule r ps) = by_rule r ps
stated_step (step.Rulewith r b ps) = by_rulewith r b ps
stated_step (step.Inst r ps) = by_inst r ps
stated_step (step.Cong r ps es) = by_cong r ps es
stated_step (step.Convprem r ps es q) = by_convprem r ps es q
stated_step (step.Convback r ps es q) = by_convback r ps es q
stated_step (step.Arg i p) = by_arg i p
stated_step (step.Natural p) = by_natural p
