use Rattle.std.proofs.Common.{rules, take, ◌≡◌, ◌<◌, ◌≤◌, length, true, is_some, sym, ap, ◌∙◌, subst, refl}
use Rattle.std.specs.Prelude.{option_map}
use Rattle.std.proofs.lemmas.Option.{same_Some}
use Rattle.ft_items.specs.Equal.{is_thesis, right_head, starts}
use Rattle.ft_items.specs.Store.{Assertion}
use Rattle.ft_syntax.specs.Table.{tree}
use Rattle.ft_check.specs.Entries.{entry_in}
use Rattle.ft_common.proofs.Options.{none_some}
use Rattle.ft_check.proofs.Started.{none_left, standing, taken_none, taken_not, taken_some}
use Rattle.ft_check.proofs.rights.right_at.Goals as goal

pub returns-then-used-es-clause-next : goal.returns-then-used-es-clause-next
returns-then-used-es-clause-next c = λ ys h m.
    let over : length c.args.es.now ≤ c.args.used = search rules in
    taken_none (entry_in c.args.items.now.trees c.args.x).statement _ (none_left (take c.args.i c.args.items.now.items) c.args.es.now ys c.args.used h over)

pub returns-in_err-e-clause-next : goal.returns-in_err-e-clause-next
returns-in_err-e-clause-next c = λ ys h m.
    let lt : c.args.used < length c.args.es.now = search rules in
    let s = standing (take c.args.i c.args.items.now.items) c.args.es.now ys c.args.used _ h lt refl in
    none_some (sym (ap (option_map (entry_in c.args.items.now.trees)) c.in_err-e.was) ∙ c.entry_before.ensures.entry ∙ s.is)

pub returns-in_default-clause-next : goal.returns-in_default-clause-next
returns-in_default-clause-next c = λ ys h m.
    let T = c.args.items.now.trees in
    let lt : c.args.used < length c.args.es.now = search rules in
    let s = standing (take c.args.i c.args.items.now.items) c.args.es.now ys c.args.used _ h lt refl in
    let same = same_Some (entry_in T c.in_ok-e.e) s.one (sym (ap (option_map (entry_in T)) c.in_ok-e.was) ∙ c.entry_before.ensures.entry ∙ s.is) in
    let thesis : is_thesis (entry_in T c.in_ok-e.e).statement ≡ true = ap (λ (a : Assertion). is_thesis a.statement) same ∙ s.thesis in
    let there = subst (λ ts. is_thesis (entry_in ts c.in_ok-e.e).statement ≡ true → is_some c.right_from.result ≡ starts (entry_in ts c.args.x).statement (entry_in ts c.in_ok-e.e).statement) c.terms.ensures c.right_from.ensures.there thesis in
    taken_not (entry_in T c.args.x).statement s.one.statement _ _ _ s.rest (there ∙ ap (λ (a : Assertion). starts (entry_in T c.args.x).statement a.statement) same) (ap is_some c.in_default.is)

pub returns-clause-next : goal.returns-clause-next
returns-clause-next c = λ ys h m.
    let T = c.args.items.now.trees in
    let lt : c.args.used < length c.args.es.now = search rules in
    let s = standing (take c.args.i c.args.items.now.items) c.args.es.now ys c.args.used _ h lt refl in
    let same = same_Some (entry_in T c.in_ok-e.e) s.one (sym (ap (option_map (entry_in T)) c.in_ok-e.was) ∙ c.entry_before.ensures.entry ∙ s.is) in
    let thesis : is_thesis (entry_in T c.in_ok-e.e).statement ≡ true = ap (λ (a : Assertion). is_thesis a.statement) same ∙ s.thesis in
    let there = subst (λ ts. is_thesis (entry_in ts c.in_ok-e.e).statement ≡ true → is_some c.right_from.result ≡ starts (entry_in ts c.args.x).statement (entry_in ts c.in_ok-e.e).statement) c.terms.ensures c.right_from.ensures.there thesis in
    let side = subst (λ ts. is_thesis (entry_in ts c.in_ok-e.e).statement ≡ true → tree ts c.in-Some.body ≡ right_head (entry_in ts c.in_ok-e.e).statement) c.terms.ensures c.in-Some.ensures.is thesis in
    taken_some (entry_in T c.args.x).statement s.one.statement _ _ _ _ _ s.rest (there ∙ ap (λ (a : Assertion). starts (entry_in T c.args.x).statement a.statement) same) (ap is_some c.in-Some.is) m
    (side ∙ ap (λ (a : Assertion). right_head a.statement) same)
