use Rattle.std.proofs.Common.{◌≡◌, ◌∙◌, ap, add-one, rules, [], ◌∷◌, ◌++◌}
use Rattle.ft_syntax.specs.Chains.{has_body, body_number}
use Rattle.ft_syntax.proofs.Spelling.{spelled_more, three_more}
use Rattle.ft_syntax.proofs.marks.spelling_of.Goals as goal

pub loop-arg-preserved : goal.loop-arg-preserved
loop-arg-preserved c =
    let x = c.arg-item.result in
    let ks = c.loop-arg.words.items in
    let three : c.push-in-loop-arg-3.new.self.items ≡ ks ++ x.binders ∷ c.flag_of_body.result ∷ c.number_of_body.result ∷ [] = three_more ks c.push-in-loop-arg.new.self.items c.push-in-loop-arg-2.new.self.items c.push-in-loop-arg-3.new.self.items
    x.binders c.flag_of_body.result c.number_of_body.result c.in_ok-push-3.ensures.items c.in_ok-push-4.ensures.items c.in_ok-push-5.ensures.items in
    let spelled : c.push-in-loop-arg-3.new.self.items ≡ ks ++ x.binders ∷ has_body x.body ∷ body_number x.body ∷ [] = three ∙ ap (λ a. ks ++ x.binders ∷ a ∷ c.number_of_body.result ∷ []) c.flag_of_body.ensures ∙ ap (λ a. ks ++ x.binders ∷ has_body x.body ∷ a ∷ []) c.number_of_body.ensures in
    rw add-one (spelled_more c.args.node c.args.args.now c.loop-arg.arg-index ks c.push-in-loop-arg-3.new.self.items x c.loop-arg.invariant (search rules) c.arg-item.is spelled)
