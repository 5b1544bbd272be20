use Rattle.std.proofs.Common.{take, ap}
use Rattle.ft_items.specs.Equal.{is_thesis}
use Rattle.ft_items.specs.Item.{by_natural, by_generic, by_meta, by_metacong, by_var, by_abs, by_subst, by_substeq, by_refl, by_sym, by_left, by_right, by_typeof, by_domain, by_boundary, by_bterm, by_trans, by_conv, by_conveq, by_widen, by_beqty, by_beqtm}
use Rattle.ft_items.specs.Store.{store_of, each, entry_named, metavariable_named, variable_named, resolve, declared_by}
use Rattle.ft_stated.specs.Steps.{stated_step}
use Rattle.ft_check.specs.Entries.{entry_in}
use Rattle.ft_check.proofs.Entering.{arg_result, btype_result, one_checked, one_result, two_result, three_result, rule_result, rulewith_result}
use Rattle.ft_check.specs.declared.conversions.Way.TheVariants.{Forth, Back}
use Rattle.ft_check.proofs.StepsAtRules.{inst_result, cong_result, conv_result}
use Rattle.ft_check.proofs.item.check_result.Goals as goal

pub returns-in-Var : goal.returns-in-Var
returns-in-Var c = λ s g q k. one_checked (store_of (take c.args.i c.args.items.now.items)) c.args.step.now by_var (variable_named (declared_by (take c.args.i c.args.items.now.items)) c.in-Var.v) (entry_in c.args.items.now.trees c.args.found) c.check_var.result s (ap (λ t. resolve (store_of (take c.args.i c.args.items.now.items)) (stated_step t)) c.in-Var.is) q
    (λ d f. c.check_var.ensures d (stated_step c.args.step.now) g f)

pub returns-in-Abs : goal.returns-in-Abs
returns-in-Abs c = λ s g q k. two_result (store_of (take c.args.i c.args.items.now.items)) c.args.step.now by_abs (variable_named (declared_by (take c.args.i c.args.items.now.items)) c.in-Abs.v) (entry_named (store_of (take c.args.i c.args.items.now.items)) c.in-Abs.p) (entry_in c.args.items.now.trees c.args.found) c.check_abs.result s (ap (λ t. resolve (store_of (take c.args.i c.args.items.now.items)) (stated_step t)) c.in-Abs.is) q
    (λ d b f h. c.check_abs.ensures d b (stated_step c.args.step.now) g f h)

pub returns-in-Subst : goal.returns-in-Subst
returns-in-Subst c = λ s g q k. two_result (store_of (take c.args.i c.args.items.now.items)) c.args.step.now by_subst (entry_named (store_of (take c.args.i c.args.items.now.items)) c.in-Subst.p) (entry_named (store_of (take c.args.i c.args.items.now.items)) c.in-Subst.q) (entry_in c.args.items.now.trees c.args.found) c.check_subst.result s (ap (λ t. resolve (store_of (take c.args.i c.args.items.now.items)) (stated_step t)) c.in-Subst.is) q
    (λ b d f h. c.check_subst.ensures b d (stated_step c.args.step.now) f h)

pub returns-in-Substeq : goal.returns-in-Substeq
returns-in-Substeq c = λ s g q k. two_result (store_of (take c.args.i c.args.items.now.items)) c.args.step.now by_substeq (entry_named (store_of (take c.args.i c.args.items.now.items)) c.in-Substeq.p) (entry_named (store_of (take c.args.i c.args.items.now.items)) c.in-Substeq.q) (entry_in c.args.items.now.trees c.args.found) c.check_subst-in-Substeq.result s (ap (λ t. resolve (store_of (take c.args.i c.args.items.now.items)) (stated_step t)) c.in-Substeq.is) q
    (λ b d f h. c.check_subst-in-Substeq.ensures b d (stated_step c.args.step.now) f h)

pub returns-in-Refl : goal.returns-in-Refl
returns-in-Refl c = λ s g q k. one_result (store_of (take c.args.i c.args.items.now.items)) c.args.step.now by_refl (entry_named (store_of (take c.args.i c.args.items.now.items)) c.in-Refl.p) (entry_in c.args.items.now.trees c.args.found) _ s (ap (λ t. resolve (store_of (take c.args.i c.args.items.now.items)) (stated_step t)) c.in-Refl.is) q
    (λ b f. c.check_from_one.ensures b (stated_step c.args.step.now) f)

pub returns-in-Sym : goal.returns-in-Sym
returns-in-Sym c = λ s g q k. one_result (store_of (take c.args.i c.args.items.now.items)) c.args.step.now by_sym (entry_named (store_of (take c.args.i c.args.items.now.items)) c.in-Sym.p) (entry_in c.args.items.now.trees c.args.found) _ s (ap (λ t. resolve (store_of (take c.args.i c.args.items.now.items)) (stated_step t)) c.in-Sym.is) q
    (λ b f. c.check_from_one-in-Sym.ensures b (stated_step c.args.step.now) f)

pub returns-in-Left : goal.returns-in-Left
returns-in-Left c = λ s g q k. one_result (store_of (take c.args.i c.args.items.now.items)) c.args.step.now by_left (entry_named (store_of (take c.args.i c.args.items.now.items)) c.in-Left.p) (entry_in c.args.items.now.trees c.args.found) _ s (ap (λ t. resolve (store_of (take c.args.i c.args.items.now.items)) (stated_step t)) c.in-Left.is) q
    (λ b f. c.check_from_one-in-Left.ensures b (stated_step c.args.step.now) f)

pub returns-in-Right : goal.returns-in-Right
returns-in-Right c = λ s g q k. one_result (store_of (take c.args.i c.args.items.now.items)) c.args.step.now by_right (entry_named (store_of (take c.args.i c.args.items.now.items)) c.in-Right.p) (entry_in c.args.items.now.trees c.args.found) _ s (ap (λ t. resolve (store_of (take c.args.i c.args.items.now.items)) (stated_step t)) c.in-Right.is) q
    (λ b f. c.check_from_one-in-Right.ensures b (stated_step c.args.step.now) f)

pub returns-in-Typeof : goal.returns-in-Typeof
returns-in-Typeof c = λ s g q k. one_result (store_of (take c.args.i c.args.items.now.items)) c.args.step.now by_typeof (entry_named (store_of (take c.args.i c.args.items.now.items)) c.in-Typeof.p) (entry_in c.args.items.now.trees c.args.found) _ s (ap (λ t. resolve (store_of (take c.args.i c.args.items.now.items)) (stated_step t)) c.in-Typeof.is) q
    (λ b f. c.check_from_one-in-Typeof.ensures b (stated_step c.args.step.now) f)

pub returns-in-Domain : goal.returns-in-Domain
returns-in-Domain c = λ s g q k. one_result (store_of (take c.args.i c.args.items.now.items)) c.args.step.now by_domain (entry_named (store_of (take c.args.i c.args.items.now.items)) c.in-Domain.p) (entry_in c.args.items.now.trees c.args.found) _ s (ap (λ t. resolve (store_of (take c.args.i c.args.items.now.items)) (stated_step t)) c.in-Domain.is) q
    (λ b f. c.check_from_one-in-Domain.ensures b (stated_step c.args.step.now) f)

pub returns-in-Boundary : goal.returns-in-Boundary
returns-in-Boundary c = λ s g q k. one_result (store_of (take c.args.i c.args.items.now.items)) c.args.step.now by_boundary (entry_named (store_of (take c.args.i c.args.items.now.items)) c.in-Boundary.p) (entry_in c.args.items.now.trees c.args.found) _ s (ap (λ t. resolve (store_of (take c.args.i c.args.items.now.items)) (stated_step t)) c.in-Boundary.is) q
    (λ b f. c.check_from_one-in-Boundary.ensures b (stated_step c.args.step.now) f)

pub returns-in-Bterm : goal.returns-in-Bterm
returns-in-Bterm c = λ s g q k. one_result (store_of (take c.args.i c.args.items.now.items)) c.args.step.now by_bterm (entry_named (store_of (take c.args.i c.args.items.now.items)) c.in-Bterm.p) (entry_in c.args.items.now.trees c.args.found) _ s (ap (λ t. resolve (store_of (take c.args.i c.args.items.now.items)) (stated_step t)) c.in-Bterm.is) q
    (λ b f. c.check_from_one-in-Bterm.ensures b (stated_step c.args.step.now) f)

pub returns-in-Trans : goal.returns-in-Trans
returns-in-Trans c = λ s g q k. two_result (store_of (take c.args.i c.args.items.now.items)) c.args.step.now by_trans (entry_named (store_of (take c.args.i c.args.items.now.items)) c.in-Trans.p) (entry_named (store_of (take c.args.i c.args.items.now.items)) c.in-Trans.q) (entry_in c.args.items.now.trees c.args.found) c.check_from_two.result s (ap (λ t. resolve (store_of (take c.args.i c.args.items.now.items)) (stated_step t)) c.in-Trans.is) q
    (λ b d f h. c.check_from_two.ensures b d (stated_step c.args.step.now) f h)

pub returns-in-Conv : goal.returns-in-Conv
returns-in-Conv c = λ s g q k. two_result (store_of (take c.args.i c.args.items.now.items)) c.args.step.now by_conv (entry_named (store_of (take c.args.i c.args.items.now.items)) c.in-Conv.p) (entry_named (store_of (take c.args.i c.args.items.now.items)) c.in-Conv.q) (entry_in c.args.items.now.trees c.args.found) c.check_from_two-in-Conv.result s (ap (λ t. resolve (store_of (take c.args.i c.args.items.now.items)) (stated_step t)) c.in-Conv.is) q
    (λ b d f h. c.check_from_two-in-Conv.ensures b d (stated_step c.args.step.now) f h)

pub returns-in-Conveq : goal.returns-in-Conveq
returns-in-Conveq c = λ s g q k. two_result (store_of (take c.args.i c.args.items.now.items)) c.args.step.now by_conveq (entry_named (store_of (take c.args.i c.args.items.now.items)) c.in-Conveq.p) (entry_named (store_of (take c.args.i c.args.items.now.items)) c.in-Conveq.q) (entry_in c.args.items.now.trees c.args.found) c.check_from_two-in-Conveq.result s (ap (λ t. resolve (store_of (take c.args.i c.args.items.now.items)) (stated_step t)) c.in-Conveq.is) q
    (λ b d f h. c.check_from_two-in-Conveq.ensures b d (stated_step c.args.step.now) f h)

pub returns-in-Widen : goal.returns-in-Widen
returns-in-Widen c = λ s g q k. two_result (store_of (take c.args.i c.args.items.now.items)) c.args.step.now by_widen (entry_named (store_of (take c.args.i c.args.items.now.items)) c.in-Widen.p) (entry_named (store_of (take c.args.i c.args.items.now.items)) c.in-Widen.q) (entry_in c.args.items.now.trees c.args.found) c.check_from_two-in-Widen.result s (ap (λ t. resolve (store_of (take c.args.i c.args.items.now.items)) (stated_step t)) c.in-Widen.is) q
    (λ b d f h. c.check_from_two-in-Widen.ensures b d (stated_step c.args.step.now) f h)

pub returns-in-Beqty : goal.returns-in-Beqty
returns-in-Beqty c = λ s g q k. two_result (store_of (take c.args.i c.args.items.now.items)) c.args.step.now by_beqty (entry_named (store_of (take c.args.i c.args.items.now.items)) c.in-Beqty.p) (entry_named (store_of (take c.args.i c.args.items.now.items)) c.in-Beqty.q) (entry_in c.args.items.now.trees c.args.found) c.check_from_two-in-Beqty.result s (ap (λ t. resolve (store_of (take c.args.i c.args.items.now.items)) (stated_step t)) c.in-Beqty.is) q
    (λ b d f h. c.check_from_two-in-Beqty.ensures b d (stated_step c.args.step.now) f h)

pub returns-in-Beqtm : goal.returns-in-Beqtm
returns-in-Beqtm c = λ s g q k. three_result (store_of (take c.args.i c.args.items.now.items)) c.args.step.now by_beqtm (entry_named (store_of (take c.args.i c.args.items.now.items)) c.in-Beqtm.p) (entry_named (store_of (take c.args.i c.args.items.now.items)) c.in-Beqtm.s) (entry_named (store_of (take c.args.i c.args.items.now.items)) c.in-Beqtm.t) (entry_in c.args.items.now.trees c.args.found) c.check_from_three.result s (ap (λ t. resolve (store_of (take c.args.i c.args.items.now.items)) (stated_step t)) c.in-Beqtm.is) q
    (λ b d e f h j. c.check_from_three.ensures b d e (stated_step c.args.step.now) f h j)

pub returns-in-Btype : goal.returns-in-Btype
returns-in-Btype c = λ s g q k. btype_result (store_of (take c.args.i c.args.items.now.items)) c.args.step.now (entry_in c.args.items.now.trees c.args.found) _ s c.in-Btype.is q (c.check_btype.ensures c.args.items.now.trees (stated_step c.args.step.now))

pub returns-in-Rule : goal.returns-in-Rule
returns-in-Rule c = λ s g q k. rule_result (store_of (take c.args.i c.args.items.now.items)) c.args.step.now c.in-Rule.r c.in-Rule.ps (entry_in c.args.items.now.trees c.args.found) c.check_applied.result (is_thesis (entry_in c.args.items.now.trees c.args.found).statement) s c.in-Rule.is q k
    (λ R given f e a. c.check_applied.ensures R given (stated_step c.args.step.now) g f e a)

pub returns-in-Rulewith : goal.returns-in-Rulewith
returns-in-Rulewith c = λ s g q k. rulewith_result (store_of (take c.args.i c.args.items.now.items)) c.args.step.now c.in-Rulewith.r c.in-Rulewith.b c.in-Rulewith.ps (entry_in c.args.items.now.trees c.args.found) c.check_applied_with.result (is_thesis (entry_in c.args.items.now.trees c.args.found).statement) s c.in-Rulewith.is q k
    (λ R b given f m n e a. c.check_applied_with.ensures R b given (stated_step c.args.step.now) g f m n e a)

pub returns-in-Inst : goal.returns-in-Inst
returns-in-Inst c = λ s g q k. inst_result (take c.args.i c.args.items.now.items) c.args.step.now c.in-Inst.r c.in-Inst.ps (entry_in c.args.items.now.trees c.args.found) c.check_inst.result s c.in-Inst.is q k
    (λ R xs f h o. c.check_inst.ensures R xs (stated_step c.args.step.now) g f h o)

pub returns-in-Cong : goal.returns-in-Cong
returns-in-Cong c = λ s g q k. cong_result (take c.args.i c.args.items.now.items) c.args.step.now c.in-Cong.r c.in-Cong.ps c.in-Cong.es (entry_in c.args.items.now.trees c.args.found) c.check_cong.result _ s c.in-Cong.is q k
    (λ R xs ys f h o. c.check_cong.ensures R xs ys (stated_step c.args.step.now) g f h o)

pub returns-in-Convprem : goal.returns-in-Convprem
returns-in-Convprem c = λ s g q k. conv_result Forth (take c.args.i c.args.items.now.items) c.args.step.now c.in-Convprem.r c.in-Convprem.q c.in-Convprem.ps c.in-Convprem.es (entry_in c.args.items.now.trees c.args.found) c.check_conv.result s (ap (λ t. resolve (store_of (take c.args.i c.args.items.now.items)) (stated_step t)) c.in-Convprem.is) q k
    (λ R xs ys d f h o e m n. c.check_conv.ensures R xs ys d (stated_step c.args.step.now) g f h o e m n)

pub returns-in-Convback : goal.returns-in-Convback
returns-in-Convback c = λ s g q k. conv_result Back (take c.args.i c.args.items.now.items) c.args.step.now c.in-Convback.r c.in-Convback.q c.in-Convback.ps c.in-Convback.es (entry_in c.args.items.now.trees c.args.found) c.check_conv-in-Convback.result s (ap (λ t. resolve (store_of (take c.args.i c.args.items.now.items)) (stated_step t)) c.in-Convback.is) q k
    (λ R xs ys d f h o e m n. c.check_conv-in-Convback.ensures R xs ys d (stated_step c.args.step.now) g f h o e m n)

pub returns-in-Generic : goal.returns-in-Generic
returns-in-Generic c = λ s g q k. one_checked (store_of (take c.args.i c.args.items.now.items)) c.args.step.now by_generic (metavariable_named (declared_by (take c.args.i c.args.items.now.items)) c.in-Generic.m) (entry_in c.args.items.now.trees c.args.found) c.check_generic.result s (ap (λ t. resolve (store_of (take c.args.i c.args.items.now.items)) (stated_step t)) c.in-Generic.is) q
    (λ d f. c.check_generic.ensures d (stated_step c.args.step.now) g f)

pub returns-in-Meta : goal.returns-in-Meta
returns-in-Meta c = λ s g q k. two_result (store_of (take c.args.i c.args.items.now.items)) c.args.step.now by_meta (metavariable_named (declared_by (take c.args.i c.args.items.now.items)) c.in-Meta.m) (each (entry_named (store_of (take c.args.i c.args.items.now.items))) c.in-Meta.ps) (entry_in c.args.items.now.trees c.args.found) c.check_meta.result s (ap (λ t. resolve (store_of (take c.args.i c.args.items.now.items)) (stated_step t)) c.in-Meta.is) q
    (λ d given f h. c.check_meta.ensures d given (stated_step c.args.step.now) g f h)

pub returns-in-Metacong : goal.returns-in-Metacong
returns-in-Metacong c = λ s g q k. two_result (store_of (take c.args.i c.args.items.now.items)) c.args.step.now by_metacong (metavariable_named (declared_by (take c.args.i c.args.items.now.items)) c.in-Metacong.m) (each (entry_named (store_of (take c.args.i c.args.items.now.items))) c.in-Metacong.es) (entry_in c.args.items.now.trees c.args.found) c.check_meta-in-Metacong.result s (ap (λ t. resolve (store_of (take c.args.i c.args.items.now.items)) (stated_step t)) c.in-Metacong.is) q
    (λ d given f h. c.check_meta-in-Metacong.ensures d given (stated_step c.args.step.now) g f h)

pub returns-in-Arg : goal.returns-in-Arg
returns-in-Arg c = λ s g q k. arg_result (store_of (take c.args.i c.args.items.now.items)) c.args.step.now c.in-Arg.k c.in-Arg.p (entry_in c.args.items.now.trees c.args.found) c.check_arg.result s (ap (λ t. resolve (store_of (take c.args.i c.args.items.now.items)) (stated_step t)) c.in-Arg.is) q k
    (λ b f h. c.check_arg.ensures b (stated_step c.args.step.now) g f h)

pub returns-in-Natural : goal.returns-in-Natural
returns-in-Natural c = λ s g q k. one_checked (store_of (take c.args.i c.args.items.now.items)) c.args.step.now by_natural (entry_named (store_of (take c.args.i c.args.items.now.items)) c.in-Natural.p) (entry_in c.args.items.now.trees c.args.found) c.check_natural.result s (ap (λ t. resolve (store_of (take c.args.i c.args.items.now.items)) (stated_step t)) c.in-Natural.is) q
    (λ b f. c.check_natural.ensures b (stated_step c.args.step.now) g f)
