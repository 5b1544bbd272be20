-- What is in the grammar is read, whatever may follow it.
use Rattle.std.proofs.Common.{◌≡◌, ◌∙◌, sym, ap, refl, ℕ, zero, suc, ◌≤◌, ◌<◌, List, [], ◌∷◌, ◌++◌, Ok, Err, Result, Some, None, append_assoc, append-nil, length, false, if◌then◌else◌, arith}
use lib.ListN.{length-append}
use Rattle.ft_base.specs.declared.word.Word.TheVariants as word
use Rattle.ft_grammar.specs.declared.token.Mark.TheVariants as mark
use Rattle.ft_grammar.specs.declared.token.Kind.{Kind}
use Rattle.ft_grammar.specs.declared.token.Kind.TheVariants as kind
use Rattle.ft_applications.specs.declared.fault.Fault.{Fault}
use Rattle.ft_applications_meaning.specs.declared.syntax.Application.{Application}
use Rattle.ft_applications_meaning.specs.declared.syntax.Application.TheVariants as application
use Rattle.ft_applications_meaning.specs.declared.syntax.Premise.{Premise}
use Rattle.ft_applications_meaning.specs.declared.syntax.Premise.TheVariants as premise
use Rattle.ft_applications_meaning.specs.declared.syntax.Conclusion.{Conclusion}
use Rattle.ft_applications_meaning.specs.declared.syntax.Conclusion.TheVariants as conclusion
use Rattle.ft_applications_meaning.specs.declared.syntax.Command.{Command}
use Rattle.ft_applications_meaning.specs.declared.syntax.Command.TheVariants as command
use Rattle.ft_applications.specs.Reading.{◌>>=◌, go_on, Outcome, Reader, and_then, expression, level, name, one_argument, arguments_from, expect_mark, sees_mark, sees_name, sees_word, sees_end, premise_inside, one_premise, premises_from, concluded, rule, show, one_command, commands_from, source, value_of}
use Rattle.ft_applications_meaning.specs.Grammar.{left, right, colon, IsApplication, AreArguments, applied, no_argument, name_alone, in_parentheses, IsPremise, type_premise, term_premise, ArePremises, no_premise, next_premise, IsConclusion, type_conclusion, term_conclusion, IsCommand, a_rule, a_show, AreCommands, the_end, next_command}

-- neither a name nor a parenthesis is next, so no argument is
pub Stops : List Kind → Type 0
unfolding sees_name
Stops ks = (sees_name ks ≡ false) × (sees_mark mark.LeftParen ks ≡ false)

arguments_short : (d : ℕ) (as' : List Application) (ks : List Kind) → AreArguments d as' ks → length as' ≤ length ks
arguments_short d as' ks no_argument = omega arith
arguments_short d as' ks (name_alone {as' = bs} {ks = js} n h) = let l = arguments_short d bs js h in omega arith
arguments_short d as' ks (in_parentheses {a = a} {as' = bs} {js = is} {ks = js} g h) =
    let l = arguments_short d bs js h in
    let m = length-append is (right ∷ js) in
    omega arith

-- one more, by what is read first
after : {A B : Type 0} (o : Outcome A) (r : A) (rest : List Kind) (f : A → Reader B) → o ≡ Ok (r, rest) → and_then o f ≡ f r rest
after o r rest f h = ap (λ o. and_then o f) h

no_argument_next : (d : ℕ) (rest : List Kind) → Stops rest → one_argument (expression d) rest ≡ Ok (None, rest)
unfolding one_argument Stops
no_argument_next d rest s = rw (s.0, s.1) refl

no_more : (d n : ℕ) (found : List Application) (rest : List Kind) → Stops rest → arguments_from (expression d) n found rest ≡ Ok (found ++ [], rest)
unfolding arguments_from
no_more d zero found rest s = ap (λ xs. Ok (xs, rest)) (sym (append-nil found))
no_more d (suc n) found rest s = after _ None rest _ (no_argument_next d rest s) ∙ ap (λ xs. Ok (xs, rest)) (sym (append-nil found))

stops_right : (ks : List Kind) → Stops (right ∷ ks)
unfolding Stops sees_name sees_mark
stops_right ks = (refl, refl)

regroup : (js ks rest : List Kind) (k : Kind) → (js ++ k ∷ ks) ++ rest ≡ js ++ k ∷ (ks ++ rest)
regroup js ks rest k = append_assoc js (k ∷ ks) rest

mutual
  unfolding expression level name arguments_from one_argument sees_name sees_mark expect_mark

  reads_application : (d : ℕ) (a : Application) (ks rest : List Kind) → IsApplication d a ks → Stops rest → expression d (ks ++ rest) ≡ Ok (a, rest)
  reads_application d a ks rest (applied {d = e} {as' = bs} {ks = js} n h) s =
      let short = arguments_short e bs js h in
      let long = length-append js rest in
      let few : length bs ≤ length (js ++ rest) = omega arith in
      after _ bs rest (λ found ts. Ok (application.Apply n found, ts)) (reads_arguments e bs js rest (length (js ++ rest)) [] h s few)

  reads_arguments : (d : ℕ) (as' : List Application) (ks rest : List Kind) (n : ℕ) (found : List Application) → AreArguments d as' ks → Stops rest → length as' ≤ n
      → arguments_from (expression d) n found (ks ++ rest) ≡ Ok (found ++ as', rest)
  reads_arguments d as' ks rest n found no_argument s few = no_more d n found rest s
  reads_arguments d as' ks rest zero found (name_alone {as' = bs} {ks = js} m h) s few = absurd (omega arith)
  reads_arguments d as' ks rest (suc n) found (name_alone {as' = bs} {ks = js} m h) s few =
      let less : length bs ≤ n = omega arith in
      reads_arguments d bs js rest n (found ++ application.Apply m [] ∷ []) h s less
      ∙ ap (λ xs. Ok (xs, rest)) (append_assoc found (application.Apply m [] ∷ []) bs)
  reads_arguments d as' ks rest zero found (in_parentheses {a = a} {as' = bs} {js = is} {ks = js} g h) s few = absurd (omega arith)
  reads_arguments d as' ks rest (suc n) found (in_parentheses {a = a} {as' = bs} {js = is} {ks = js} g h) s few =
      let less : length bs ≤ n = omega arith in
      ap (λ ts. arguments_from (expression d) (suc n) found (left ∷ ts)) (regroup is js rest right)
      ∙ ap (λ o. and_then (and_then o (λ given. expect_mark mark.RightParen >>= (λ _. λ ts. Ok (Some given, ts)))) (go_on (arguments_from (expression d) n) found))
      (reads_application d a is (right ∷ (js ++ rest)) g (stops_right (js ++ rest)))
      ∙ reads_arguments d bs js rest n (found ++ a ∷ []) h s less
      ∙ ap (λ xs. Ok (xs, rest)) (append_assoc found (a ∷ []) bs)

-- an expression of a command
reads_nested : (a : Application) (ks rest : List Kind) → IsApplication 200 a ks → Stops rest → expression 200 (ks ++ rest) ≡ Ok (a, rest)
reads_nested a ks rest h s = reads_application 200 a ks rest h s

conclusion_starts : (c : Conclusion) (ks rest : List Kind) → IsConclusion c ks → sees_mark mark.LeftParen (ks ++ rest) ≡ false
unfolding sees_mark
conclusion_starts c ks rest type_conclusion = refl
conclusion_starts c ks rest (term_conclusion h) = refl

commands_start : (cs : List Command) (ks : List Kind) → AreCommands cs ks → Stops ks
unfolding Stops sees_name sees_mark
commands_start cs ks the_end = (refl, refl)
commands_start cs ks (next_command (a_rule n h g) t) = (refl, refl)
commands_start cs ks (next_command (a_show h) t) = (refl, refl)

reads_premise : (p : Premise) (ks rest : List Kind) → IsPremise p ks → one_premise (ks ++ rest) ≡ Ok (Some p, rest)
unfolding one_premise premise_inside name sees_mark sees_word expect_mark
reads_premise p ks rest (type_premise n) = refl
reads_premise p ks rest (term_premise {a = a} {ks = js} n h) =
    ap (λ ts. one_premise (left ∷ kind.Name n ∷ colon ∷ ts)) (regroup js [] rest right)
    ∙ ap (λ o. and_then (and_then o (λ given ts. Ok (premise.Term n given, ts))) (λ given. expect_mark mark.RightParen >>= (λ _. λ ts. Ok (Some given, ts))))
    (reads_nested a js (right ∷ rest) h (stops_right rest))

premises_short : (ps : List Premise) (ks : List Kind) → ArePremises ps ks → length ps ≤ length ks
premises_short ps ks no_premise = omega arith
premises_short ps ks (next_premise {p = p} {ps = qs} {js = js} {ks = is} (type_premise n) t) =
    let l = premises_short qs is t in omega arith
premises_short ps ks (next_premise {p = p} {ps = qs} {js = js} {ks = is} (term_premise {ks = us} n h) t) =
    let l = premises_short qs is t in
    let m = length-append us (right ∷ []) in
    let k = length-append (us ++ right ∷ []) is in
    omega arith

reads_premises : (ps : List Premise) (ks rest : List Kind) (n : ℕ) (found : List Premise) → ArePremises ps ks → sees_mark mark.LeftParen rest ≡ false → length ps ≤ n
    → premises_from n found (ks ++ rest) ≡ Ok (found ++ ps, rest)
unfolding premises_from one_premise
reads_premises ps ks rest zero found no_premise s few = ap (λ xs. Ok (xs, rest)) (sym (append-nil found))
reads_premises ps ks rest (suc n) found no_premise s few =
    let none : one_premise rest ≡ Ok (None, rest) = rw s refl in
    after _ None rest (go_on (premises_from n) found) none ∙ ap (λ xs. Ok (xs, rest)) (sym (append-nil found))
reads_premises ps ks rest zero found (next_premise h t) s few = absurd (omega arith)
reads_premises ps ks rest (suc n) found (next_premise {p = p} {ps = qs} {js = js} {ks = is} h t) s few =
    let less : length qs ≤ n = omega arith in
    ap (premises_from (suc n) found) (append_assoc js is rest)
    ∙ after _ (Some p) (is ++ rest) (go_on (premises_from n) found) (reads_premise p js (is ++ rest) h)
    ∙ reads_premises qs is rest n (found ++ p ∷ []) t s less
    ∙ ap (λ xs. Ok (xs, rest)) (append_assoc found (p ∷ []) qs)

reads_conclusion : (c : Conclusion) (ks rest : List Kind) → IsConclusion c ks → Stops rest → concluded (ks ++ rest) ≡ Ok (c, rest)
unfolding concluded sees_word sees_mark expect_mark
reads_conclusion c ks rest type_conclusion s = refl
reads_conclusion c ks rest (term_conclusion {a = a} {ks = js} h) s =
    after _ a rest (λ given ts. Ok (conclusion.Term given, ts)) (reads_nested a js rest h s)

reads_command : (c : Command) (ks rest : List Kind) → IsCommand c ks → Stops rest → one_command (ks ++ rest) ≡ Ok (c, rest)
unfolding one_command rule show name sees_word
reads_command c ks rest (a_show {a = a} {ks = js} h) s = after _ a rest (λ given ts. Ok (command.Show given, ts)) (reads_nested a js rest h s)
reads_command c ks rest (a_rule {ps = ps} {c = concludes} {js = js} {ks = is} n h g) s =
    let short = premises_short ps js h in
    let long = length-append js (is ++ rest) in
    let few : length ps ≤ length (js ++ (is ++ rest)) = omega arith in
    ap (λ ts. one_command (kind.Word word.Rule ∷ kind.Name n ∷ ts)) (append_assoc js is rest)
    ∙ after _ ps (is ++ rest) (λ premises. concluded >>= (λ concludes ts. Ok (command.Rule n premises concludes, ts)))
    (reads_premises ps js (is ++ rest) (length (js ++ (is ++ rest))) [] h (conclusion_starts concludes is rest g) few)
    ∙ after _ concludes rest (λ concludes ts. Ok (command.Rule n ps concludes, ts)) (reads_conclusion concludes is rest g s)

commands_short : (cs : List Command) (ks : List Kind) → AreCommands cs ks → length cs < length ks
commands_short cs ks the_end = omega arith
commands_short cs ks (next_command {cs = ds} {ks = is} (a_rule {js = us} {ks = vs} n h g) t) =
    let l = commands_short ds is t in
    let m = length-append (us ++ vs) is in
    omega arith
commands_short cs ks (next_command {cs = ds} {ks = is} (a_show {ks = us} h) t) =
    let l = commands_short ds is t in
    let m = length-append us is in
    omega arith

show_no_end : (ts : List Kind) → sees_end (kind.Word word.Show ∷ ts) ≡ false
unfolding sees_end
show_no_end [] = refl
show_no_end (t ∷ ts) = refl

no_end : (c : Command) (ks rest : List Kind) → IsCommand c ks → sees_end (ks ++ rest) ≡ false
unfolding sees_end
no_end c ks rest (a_rule n h g) = refl
no_end c ks rest (a_show {ks = js} h) = show_no_end (js ++ rest)

reads_commands : (cs : List Command) (ks : List Kind) (n : ℕ) (found : List Command) → AreCommands cs ks → length cs < n
    → commands_from n found ks ≡ Ok (found ++ cs, kind.End ∷ [])
unfolding commands_from sees_end
reads_commands cs ks zero found h few = absurd (omega arith)
reads_commands cs ks (suc n) found the_end few = ap (λ xs. Ok (xs, kind.End ∷ [])) (sym (append-nil found))
reads_commands cs ks (suc n) found (next_command {c = c} {cs = ds} {js = js} {ks = is} h t) few =
    let less : length ds < n = omega arith in
    let first : Outcome (List Command) = Ok (found, js ++ is) in
    let second : Outcome (List Command) = and_then (one_command (js ++ is)) (λ given. commands_from n (found ++ given ∷ [])) in
    ap (λ b. if b then first else second) (no_end c js is h)
    ∙ after _ c is (λ given. commands_from n (found ++ given ∷ [])) (reads_command c js is h (commands_start ds is t))
    ∙ reads_commands ds is n (found ++ c ∷ []) t less
    ∙ ap (λ xs. Ok (xs, kind.End ∷ [])) (append_assoc found (c ∷ []) ds)

pub reads : (cs : List Command) (ks : List Kind) → AreCommands cs ks → source ks ≡ Ok cs
unfolding source
reads cs ks h = ap value_of (reads_commands cs ks (length ks) [] h (commands_short cs ks h))

commands_or : List Command → Result (List Command) Fault → List Command
commands_or d (Ok cs) = cs
commands_or d (Err e) = d

pub one_tree : (cs ds : List Command) (ks : List Kind) → AreCommands cs ks → AreCommands ds ks → cs ≡ ds
unfolding commands_or
one_tree cs ds ks h g = ap (commands_or cs) (sym (reads cs ks h) ∙ reads ds ks g)
