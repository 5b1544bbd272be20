use Rattle.std.proofs.Common.{◌∙◌, sym, ap, take, true, not}
use Rattle.std.specs.Prelude.{option_map}
use Rattle.ft_items.specs.Equal.{is_thesis}
use Rattle.ft_items.specs.Item.{by_rulewith, by_cong, by_convprem, by_convback}
use Rattle.ft_items.specs.Store.{store_of, resolve, rule_named, entry_named, each}
use Rattle.ft_items.specs.Good.{all_theses}
use Rattle.ft_stated.specs.Steps.{stated_step}
use Rattle.ft_check.specs.Kinds.{kinds_right}
use Rattle.ft_check.proofs.StepKinds.{shape_three, shape_four, with_right, twice_right, moved_right}
use Rattle.ft_check.proofs.step_kinds.kinds.Goals as goal

pub returns-in-Rulewith : goal.returns-in-Rulewith
returns-in-Rulewith c =
    let W = store_of (take c.args.i c.args.items.now.items) in
    λ g. c.rule_with.ensures g
    ∙ shape_three (kinds_right c.args.thesis) by_rulewith (λ R. true) (λ a. not (is_thesis a.statement)) all_theses c.args.thesis (λ R a ps. with_right (not (is_thesis a.statement)) (all_theses ps) c.args.thesis)
    (rule_named W.declarations c.in-Rulewith.r) (entry_named W c.in-Rulewith.b) (each (entry_named W) c.in-Rulewith.ps)
    ∙ ap (λ t. option_map (kinds_right c.args.thesis) (resolve W (stated_step t))) (sym c.in-Rulewith.is)

pub returns-in-Cong : goal.returns-in-Cong
returns-in-Cong c =
    let W = store_of (take c.args.i c.args.items.now.items) in
    λ g. c.rule_twice.ensures g
    ∙ shape_three (kinds_right c.args.thesis) by_cong (λ R. true) all_theses all_theses c.args.thesis (λ R ps es. twice_right ps es c.args.thesis)
    (rule_named W.declarations c.in-Cong.r) (each (entry_named W) c.in-Cong.ps) (each (entry_named W) c.in-Cong.es)
    ∙ ap (λ t. option_map (kinds_right c.args.thesis) (resolve W (stated_step t))) (sym c.in-Cong.is)

pub returns-in-Convprem : goal.returns-in-Convprem
returns-in-Convprem c =
    let W = store_of (take c.args.i c.args.items.now.items) in
    λ g. c.rule_moved.ensures g
    ∙ shape_four (kinds_right c.args.thesis) by_convprem (λ R. true) all_theses all_theses (λ a. is_thesis a.statement) c.args.thesis (λ R ps es q. moved_right ps es q c.args.thesis)
    (rule_named W.declarations c.in-Convprem.r) (each (entry_named W) c.in-Convprem.ps) (each (entry_named W) c.in-Convprem.es) (entry_named W c.in-Convprem.q)
    ∙ ap (λ t. option_map (kinds_right c.args.thesis) (resolve W (stated_step t))) (sym c.in-Convprem.is)

pub returns-in-Convback : goal.returns-in-Convback
returns-in-Convback c =
    let W = store_of (take c.args.i c.args.items.now.items) in
    λ g. c.rule_moved-in-Convback.ensures g
    ∙ shape_four (kinds_right c.args.thesis) by_convback (λ R. true) all_theses all_theses (λ a. is_thesis a.statement) c.args.thesis (λ R ps es q. moved_right ps es q c.args.thesis)
    (rule_named W.declarations c.in-Convback.r) (each (entry_named W) c.in-Convback.ps) (each (entry_named W) c.in-Convback.es) (entry_named W c.in-Convback.q)
    ∙ ap (λ t. option_map (kinds_right c.args.thesis) (resolve W (stated_step t))) (sym c.in-Convback.is)
