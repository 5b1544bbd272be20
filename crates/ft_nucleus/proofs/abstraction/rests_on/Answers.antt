use Rattle.std.proofs.Common.{◌≡◌, ◌∙◌, Some, ap, sym, subst, ℕ}
use Rattle.ft_items.specs.Item.{Name}
use Rattle.ft_items.specs.Store.{variables_in}
use Rattle.ft_items.specs.Rows.{rests_on as annotation_rests_on}
use Rattle.ft_kernel.specs.State.{variable_numbered}
use Rattle.ft_calls.proofs.Variables.{no_variable}
use Rattle.ft_nucleus.proofs.Abstracting.{numbered_there, numbered_none}
use Rattle.ft_nucleus.proofs.abstraction.rests_on.Goals as goal

pub type_entry-requires : goal.type_entry-requires
type_entry-requires c =
    let vs = variables_in c.args.k.now.items in
    let t = numbered_there (variable_numbered vs c.args.w) c.args.w c.in-Some.other (sym c.var_numbered.ensures ∙ c.in-Some.is) in
    subst (λ u. (x : Name × ℕ) × (variable_numbered vs u ≡ Some x)) t.0 (t.1, t.2)

pub returns-in-None : goal.returns-in-None
returns-in-None c =
    let s = c.args.k.now in
    ap (annotation_rests_on c.args.v) (sym (no_variable s c.args.w c.terms-terms.ensures.good (numbered_none (variable_numbered (variables_in s.items) c.args.w) c.args.w (sym c.var_numbered.ensures ∙ c.in-None.is))))
