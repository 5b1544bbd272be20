-- What is read of a whole source is in the grammar.
use Rattle.std.proofs.Common.{◌≡◌, ◌∙◌, sym, ap, refl, subst, ℕ, zero, suc, List, [], ◌∷◌, ◌++◌, Ok, Err, Option, Some, None, append_assoc, append-nil, length, drop, true, if◌then◌else◌}
use Rattle.ft_base.specs.declared.word.Word.TheVariants as word
use Rattle.ft_grammar.specs.declared.token.Mark.TheVariants as mark
use Rattle.ft_grammar.specs.declared.token.Kind.{Kind}
use Rattle.ft_grammar.specs.declared.token.Kind.TheVariants as kind
use Rattle.ft_applications.specs.declared.fault.Fault.TheVariants.{NotYet}
use Rattle.ft_applications_meaning.specs.declared.syntax.Premise.{Premise}
use Rattle.ft_applications_meaning.specs.declared.syntax.Conclusion.{Conclusion}
use Rattle.ft_applications_meaning.specs.declared.syntax.Conclusion.TheVariants as conclusion
use Rattle.ft_applications_meaning.specs.declared.syntax.Command.{Command}
use Rattle.ft_applications_meaning.specs.declared.syntax.Command.TheVariants as command
use Rattle.ft_applications.specs.Reading.{◌>>=◌, go_on, Outcome, Reader, and_then, expression, name, expect_mark, sees_mark, sees_word, sees_end, premise_inside, one_premise, premises_from, concluded, rule, show, one_command, commands_from, source, value_of}
use Rattle.ft_applications_meaning.specs.Grammar.{left, right, colon, type_word, ArePremises, no_premise, next_premise, IsConclusion, type_conclusion, term_conclusion, IsCommand, a_rule, a_show, AreCommands, the_end, next_command}
use Rattle.ft_common.proofs.Booleans.{false_true}
use Rattle.ft_common.proofs.Choices.{by_test, taken, not_taken}
use Rattle.ft_common.proofs.Results.{ok_ok, err_ok}
use Rattle.ft_applications.proofs.Sound.{in_turn, name_is, left_only, right_only, colon_only, type_only, rule_only, show_only, mark_is, expected, word_is, application_is, PremiseAnswer, inside_is}

premise_closed : (us rest : List Kind) (o : Option Premise)
    → (premise_inside >>= (λ given. expect_mark mark.RightParen >>= (λ _. λ us. Ok (Some given, us)))) us ≡ Ok (o, rest) → PremiseAnswer o (left ∷ us) rest
premise_closed us rest o h =
    let p = in_turn (premise_inside us) (λ given. expect_mark mark.RightParen >>= (λ _. λ us. Ok (Some given, us))) o rest h in
    let q = in_turn (expect_mark mark.RightParen p.0.1) (λ _. λ us. Ok (Some p.0.0, us)) o rest p.2 in
    let e = ok_ok (Some p.0.0, q.0.1) (o, rest) q.2 in
    let closed : p.0.1 ≡ right ∷ rest = expected mark.RightParen right_only p.0.1 q.0.1 q.1 ∙ ap (λ r. right ∷ r.1) e in
    let f = inside_is us p.0.1 p.0.0 p.1 in
    let is : left ∷ us ≡ (left ∷ (f.0 ++ right ∷ [])) ++ rest = ap (λ ts. left ∷ ts) (f.1 ∙ ap (λ ts. f.0 ++ ts) closed ∙ sym (append_assoc f.0 (right ∷ []) rest)) in
    subst (λ o. PremiseAnswer o (left ∷ us) rest) (ap (λ x. x.0) e) (left ∷ (f.0 ++ right ∷ []), is, f.2)

premise_is : (ts rest : List Kind) (o : Option Premise) → one_premise ts ≡ Ok (o, rest) → PremiseAnswer o ts rest
unfolding one_premise
premise_is ts rest o h =
    let first : Outcome (Option Premise) = (premise_inside >>= (λ given. expect_mark mark.RightParen >>= (λ _. λ us. Ok (Some given, us)))) (drop 1 ts) in
    let second : Outcome (Option Premise) = Ok (None, ts) in
    by_test (sees_mark mark.LeftParen ts)
    (λ yes. subst (λ us. PremiseAnswer o us rest) (sym (mark_is mark.LeftParen left_only ts yes)) (premise_closed (drop 1 ts) rest o (taken first second _ yes h)))
    (λ no. let e = ok_ok (None, ts) (o, rest) (not_taken first second _ no h) in subst (λ o. PremiseAnswer o ts rest) (ap (λ x. x.0) e) (ap (λ x. x.1) e))

abbrev pub PremisesFound : List Premise → List Premise → List Kind → List Kind → Type 0
PremisesFound found all ts rest = (ks : List Kind) × (ps : List Premise) × (ts ≡ ks ++ rest) × (all ≡ found ++ ps) × ArePremises ps ks

no_more_premises : (found all : List Premise) (ts rest : List Kind) → ◌≡◌ {A = List Premise × List Kind} (found, ts) (all, rest) → PremisesFound found all ts rest
no_more_premises found all ts rest e = ([], [], ap (λ q. q.1) e, sym (ap (λ q. q.0) e) ∙ sym (append-nil found), no_premise)

more_premises : (n : ℕ) → ((found all : List Premise) (ts rest : List Kind) → premises_from n found ts ≡ Ok (all, rest) → PremisesFound found all ts rest)
    → (found all : List Premise) (ts us rest : List Kind) (o : Option Premise) → PremiseAnswer o ts us
    → go_on (premises_from n) found o us ≡ Ok (all, rest) → PremisesFound found all ts rest
more_premises n fewer found all ts us rest None same h = subst (λ ts. PremisesFound found all ts rest) (sym same) (no_more_premises found all us rest (ok_ok (found, us) (all, rest) h))
more_premises n fewer found all ts us rest (Some p) x h =
    let f = fewer (found ++ p ∷ []) all us rest h in
    (x.0 ++ f.0, p ∷ f.1, x.1 ∙ ap (λ us. x.0 ++ us) f.2 ∙ sym (append_assoc x.0 f.0 rest), f.3 ∙ append_assoc found (p ∷ []) f.1, next_premise x.2 f.4)

premises_are : (n : ℕ) (found all : List Premise) (ts rest : List Kind) → premises_from n found ts ≡ Ok (all, rest) → PremisesFound found all ts rest
unfolding premises_from
premises_are zero found all ts rest h = no_more_premises found all ts rest (ok_ok (found, ts) (all, rest) h)
premises_are (suc n) found all ts rest h =
    let p = in_turn (one_premise ts) (go_on (premises_from n) found) all rest h in
    more_premises n (premises_are n) found all ts p.0.1 rest p.0.0 (premise_is ts p.0.1 p.0.0 p.1) p.2

abbrev pub ConclusionFound : Conclusion → List Kind → List Kind → Type 0
ConclusionFound c ts rest = (ks : List Kind) × (ts ≡ ks ++ rest) × IsConclusion c ks

term_concluded : (ts rest : List Kind) (c : Conclusion) → (expect_mark mark.Colon >>= (λ _. expression 200 >>= (λ a ts. Ok (conclusion.Term a, ts)))) ts ≡ Ok (c, rest) → ConclusionFound c ts rest
term_concluded ts rest c h =
    let q = in_turn (expect_mark mark.Colon ts) (λ _. expression 200 >>= (λ a ts. Ok (conclusion.Term a, ts))) c rest h in
    let r = in_turn (expression 200 q.0.1) (λ a ts. Ok (conclusion.Term a, ts)) c rest q.2 in
    let e = ok_ok (conclusion.Term r.0.0, r.0.1) (c, rest) r.2 in
    let f = application_is 200 r.0.0 q.0.1 r.0.1 r.1 in
    let is : ts ≡ colon ∷ (f.0 ++ rest) = expected mark.Colon colon_only ts q.0.1 q.1 ∙ ap (λ ts. colon ∷ ts) (f.1 ∙ ap (λ x. f.0 ++ x.1) e) in
    subst (λ c. ConclusionFound c ts rest) (ap (λ x. x.0) e) (colon ∷ f.0, is, term_conclusion f.2)

conclusion_is : (ts rest : List Kind) (c : Conclusion) → concluded ts ≡ Ok (c, rest) → ConclusionFound c ts rest
unfolding concluded
conclusion_is ts rest c h =
    let typed : Reader Conclusion = λ ws. Ok (conclusion.Type, drop 1 ws) in
    let of_type : Reader Conclusion = expect_mark mark.Colon >>= (λ _. expression 200 >>= (λ a ts. Ok (conclusion.Term a, ts))) in
    by_test (sees_word word.TypeWord ts)
    (λ yes. let e = ok_ok (conclusion.Type, drop 1 ts) (c, rest) (sym (ap (λ b. (if b then typed else of_type) ts) yes) ∙ h) in
    subst (λ c. ConclusionFound c ts rest) (ap (λ x. x.0) e)
    (type_word ∷ [], word_is word.TypeWord type_only ts yes ∙ ap (λ x. type_word ∷ x.1) e, type_conclusion))
    (λ no. term_concluded ts rest c (sym (ap (λ b. (if b then typed else of_type) ts) no) ∙ h))

abbrev pub CommandFound : Command → List Kind → List Kind → Type 0
CommandFound c ts rest = (ks : List Kind) × (ts ≡ ks ++ rest) × IsCommand c ks

rule_is : (ts rest : List Kind) (c : Command) → rule ts ≡ Ok (c, rest) → CommandFound c (kind.Word word.Rule ∷ ts) rest
unfolding rule
rule_is ts rest c h =
    let p = in_turn (name ts) (λ given. (λ us. premises_from (length us) [] us) >>= (λ ps. concluded >>= (λ co us. Ok (command.Rule given ps co, us)))) c rest h in
    let q = in_turn (premises_from (length p.0.1) [] p.0.1) (λ ps. concluded >>= (λ co us. Ok (command.Rule p.0.0 ps co, us))) c rest p.2 in
    let r = in_turn (concluded q.0.1) (λ co us. Ok (command.Rule p.0.0 q.0.0 co, us)) c rest q.2 in
    let e = ok_ok (command.Rule p.0.0 q.0.0 r.0.0, r.0.1) (c, rest) r.2 in
    let f = premises_are (length p.0.1) [] q.0.0 p.0.1 q.0.1 q.1 in
    let g = conclusion_is q.0.1 r.0.1 r.0.0 r.1 in
    let front = kind.Word word.Rule ∷ kind.Name p.0.0 ∷ (f.0 ++ g.0) in
    let is : kind.Word word.Rule ∷ ts ≡ front ++ rest =
    ap (λ ts. kind.Word word.Rule ∷ ts) (name_is ts p.0.0 p.0.1 p.1)
    ∙ ap (λ ts. kind.Word word.Rule ∷ kind.Name p.0.0 ∷ ts) (f.2 ∙ ap (λ ts. f.0 ++ ts) (g.1 ∙ ap (λ x. g.0 ++ x.1) e) ∙ sym (append_assoc f.0 g.0 rest)) in
    subst (λ c. CommandFound c (kind.Word word.Rule ∷ ts) rest) (ap (λ ps. command.Rule p.0.0 ps r.0.0) (sym f.3) ∙ ap (λ x. x.0) e) (front, is, a_rule p.0.0 f.4 g.2)

show_is : (ts rest : List Kind) (c : Command) → show ts ≡ Ok (c, rest) → CommandFound c (kind.Word word.Show ∷ ts) rest
unfolding show
show_is ts rest c h =
    let r = in_turn (expression 200 ts) (λ a ts. Ok (command.Show a, ts)) c rest h in
    let e = ok_ok (command.Show r.0.0, r.0.1) (c, rest) r.2 in
    let f = application_is 200 r.0.0 ts r.0.1 r.1 in
    let is : kind.Word word.Show ∷ ts ≡ kind.Word word.Show ∷ (f.0 ++ rest) = ap (λ ts. kind.Word word.Show ∷ ts) (f.1 ∙ ap (λ x. f.0 ++ x.1) e) in
    subst (λ c. CommandFound c (kind.Word word.Show ∷ ts) rest) (ap (λ x. x.0) e) (kind.Word word.Show ∷ f.0, is, a_show f.2)

command_is : (ts rest : List Kind) (c : Command) → one_command ts ≡ Ok (c, rest) → CommandFound c ts rest
unfolding one_command
command_is ts rest c h =
    let first : Outcome Command = rule (drop 1 ts) in
    let second : Outcome Command = show (drop 1 ts) in
    let third : Outcome Command = Err NotYet in
    let later : Outcome Command = if sees_word word.Show ts then second else third in
    by_test (sees_word word.Rule ts)
    (λ yes. subst (λ us. CommandFound c us rest) (sym (word_is word.Rule rule_only ts yes)) (rule_is (drop 1 ts) rest c (taken first later _ yes h)))
    (λ no. by_test (sees_word word.Show ts)
    (λ yes. subst (λ us. CommandFound c us rest) (sym (word_is word.Show show_only ts yes)) (show_is (drop 1 ts) rest c (taken second third _ yes (not_taken first later _ no h))))
    (λ none. absurd (err_ok NotYet (c, rest) (not_taken second third _ none (not_taken first later _ no h)))))

end_is : (ts : List Kind) → sees_end ts ≡ true → ts ≡ kind.End ∷ []
unfolding sees_end
end_is [] h = absurd (false_true h)
end_is (kind.End ∷ []) h = refl
end_is (_ ∷ []) h = absurd (false_true h)
end_is (_ ∷ _ ∷ ts) h = absurd (false_true h)

abbrev pub CommandsFound : List Command → List Command → List Kind → Type 0
CommandsFound found all ts = (cs : List Command) × (all ≡ found ++ cs) × AreCommands cs ts

commands_are : (n : ℕ) (found all : List Command) (ts rest : List Kind) → commands_from n found ts ≡ Ok (all, rest) → CommandsFound found all ts
unfolding commands_from
commands_are zero found all ts rest h = absurd (err_ok NotYet (all, rest) h)
commands_are (suc n) found all ts rest h =
    let first : Outcome (List Command) = Ok (found, ts) in
    let second : Outcome (List Command) = and_then (one_command ts) (λ given. commands_from n (found ++ given ∷ [])) in
    by_test (sees_end ts)
    (λ yes. let e = ok_ok (found, ts) (all, rest) (taken first second (sees_end ts) yes h) in
    ([], sym (ap (λ x. x.0) e) ∙ sym (append-nil found), subst (AreCommands []) (sym (end_is ts yes)) the_end))
    (λ no.
    let p = in_turn (one_command ts) (λ given. commands_from n (found ++ given ∷ [])) all rest (not_taken first second (sees_end ts) no h) in
    let f = command_is ts p.0.1 p.0.0 p.1 in
    let g = commands_are n (found ++ p.0.0 ∷ []) all p.0.1 rest p.2 in
    (p.0.0 ∷ g.0, g.1 ∙ append_assoc found (p.0.0 ∷ []) g.0, subst (AreCommands (p.0.0 ∷ g.0)) (sym f.1) (next_command f.2 g.2)))

source_is : (o : Outcome (List Command)) (cs : List Command) → value_of o ≡ Ok cs → (rest : List Kind) × (o ≡ Ok (cs, rest))
source_is (Ok p) cs h = (p.1, ap (λ ds. Ok (ds, p.1)) (ok_ok p.0 cs h))
source_is (Err e) cs h = absurd (err_ok e cs h)

pub sound : (cs : List Command) (ks : List Kind) → source ks ≡ Ok cs → AreCommands cs ks
unfolding source
sound cs ks h =
    let o = source_is (commands_from (length ks) [] ks) cs h in
    let f = commands_are (length ks) [] cs ks o.0 o.1 in
    subst (λ ds. AreCommands ds ks) (sym f.1) f.2
