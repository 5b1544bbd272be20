use Rattle.std.proofs.Common.{rules, ◌≡◌, ◌<◌, ◌≤◌, None, Some, length, take, subst, sym, ap, ◌∙◌, IfSome}
use Rattle.std.specs.Prelude.{option_map}
use Rattle.ft_syntax.specs.Table.{tree}
use Rattle.ft_placing.specs.Applied.{is_left}
use Rattle.ft_placing.specs.Telling.{put_in}
use Rattle.ft_placing.proofs.Told.{few_told, no_type_told, type_told}
use Rattle.ft_placing.proofs.telling.is_type_of_meta.Goals as goal

pub returns-in_default : goal.returns-in_default
returns-in_default c = λ m a h.
    let T = c.args.terms.now in
    no_type_told T c.args.b.now.domains c.args.b.now.goal a c.args.left (sym (ap (option_map (tree T)) c.in_default.is) ∙ c.goal_type.ensures.is T)

pub returns-then-len-count : goal.returns-then-len-count
returns-then-len-count c = λ m a h.
    let T = c.args.terms.now in
    let few : length c.in_ok-list.list.items < length c.items-count.result.now = search rules in
    few_told T c.args.b.now.domains c.in_ok-list.list.items c.args.e m c.args.b.now.goal a c.args.left h c.in_ok-list.ensures.are
    (subst (λ Ds. length c.in_ok-list.list.items < length Ds) c.items-count.ensures few)

pub is_left_put-requires-clause-ty : goal.is_left_put-requires-clause-ty
is_left_put-requires-clause-ty c =
    c.in-Some.ensures.below (length c.args.terms.now) c.requires.b.1

pub returns : goal.returns
returns c = λ m a h.
    let T = c.args.terms.now in
    let enough : length c.items-count.result.now ≤ length c.in_ok-list.list.items = search rules in
    ap (λ b. Some b) (c.in_ok-yes.ensures ∙ ap (λ es. is_left T (put_in T (take (length c.items-count.result.now) es) c.in-Some.ty) c.args.left) c.deref.ensures.value
    ∙ ap (λ Ds. is_left T (put_in T (take (length Ds) c.in_ok-list.list.items) c.in-Some.ty) c.args.left) c.items-count.ensures)
    ∙ type_told T c.args.b.now.domains c.in_ok-list.list.items c.args.e m c.in-Some.ty c.args.b.now.goal a c.args.left h c.in_ok-list.ensures.are
    (sym (ap (option_map (tree T)) c.in-Some.is) ∙ c.goal_type.ensures.is T) (subst (λ Ds. length Ds ≤ length c.in_ok-list.list.items) c.items-count.ensures enough)
