-- What the answer of a function that reads a whole source says of the grammar, by the laws of the grammar.
use Rattle.std.proofs.Common.{◌≡◌, ◌≢◌, ◌∙◌, sym, ap, refl, ℕ, true, not, IsTrue, IfOk, IfErr, IsErrOf, List, [], ◌∷◌, Ok, Err, Result}
use Rattle.std.proofs.lemmas.Bool.{and_parts}
use Rattle.ft_grammar.specs.declared.token.Kind.{Kind}
use Rattle.ft_grammar.specs.declared.token.Kind.TheVariants as kind
use Rattle.ft_grammar.specs.declared.token.Token.{Token}
use Rattle.ft_grammar.specs.Made.{is_end, is_ended}
use Rattle.ft_grammar.specs.declared.fault.SyntaxFault.{SyntaxFault}
use Rattle.ft_grammar.specs.declared.fault.SyntaxFault.TheVariants.{Memory, TooNested, Unexpected}
use Rattle.ft_grammar.specs.declared.syntax.Command.{Command}
use Rattle.ft_grammar.specs.Forms.{is_no_end}
use Rattle.ft_grammar.specs.Grammar.{IsSource, nesting}
use Rattle.ft_grammar.specs.Reading.{parse, ReadsAll}
use Rattle.ft_grammar.specs.Sources.{IsClosed, IsTooNested, IsFirstUnexpected}
use Rattle.ft_grammar_laws.specs.Laws.{AcceptedIsInGrammar, InGrammarIsAccepted, UnexpectedIsFirst, TooNestedCannotGoOn}

the_end : (k : Kind) → IsTrue (is_end k) → k ≡ kind.End
the_end kind.End h = refl
the_end (kind.Name n) h = cc
the_end (kind.Number n) h = cc
the_end (kind.Word w) h = cc
the_end (kind.Mark m) h = cc
the_end kind.Bad h = cc

no_end : (k : Kind) → IsTrue (not (is_end k)) → is_no_end k ≡ true
unfolding is_no_end
no_end kind.End h = cc
no_end (kind.Name n) h = refl
no_end (kind.Number n) h = refl
no_end (kind.Word w) h = refl
no_end (kind.Mark m) h = refl
no_end kind.Bad h = refl

pub closed : (ts : List Token) → IsTrue (is_ended ts) → IsClosed ts
closed [] h = cc
closed (t ∷ []) h = the_end t.kind h
closed (t ∷ u ∷ us) h = let each = and_parts (not (is_end t.kind)) (is_ended (u ∷ us)) h in (no_end t.kind each.0, closed (u ∷ us) each.1)

pub accepted : AcceptedIsInGrammar → {B : Type 0} (value : B → List Command) (ts : List Token) (r : Result B SyntaxFault) → IsTrue (is_ended ts)
    → ReadsAll (parse ts) r value → IfOk r (λ b. IsSource nesting (value b) ts)
accepted law value ts (Ok b) h reads = law (value b) ts (closed ts h) reads
accepted law value ts (Err e) h reads = tt

clash : {A : Type 0} {a : A} {e : SyntaxFault} (r : Result A SyntaxFault) → r ≡ Ok a → r ≡ Err e → ⊥
clash r h k = cc

pub refused : InGrammarIsAccepted → {B : Type 0} (value : B → List Command) (ts : List Token) (r : Result B SyntaxFault)
    → ReadsAll (parse ts) r value → IfErr r (λ e. e ≢ Memory → (c : List Command) → IsSource nesting c ts → ⊥)
refused law value ts (Ok b) reads = tt
refused law value ts (Err e) reads = λ other c h. clash (parse ts) (law c ts h) (reads other)

not_memory_at : (at : ℕ) → Unexpected at ≢ Memory
not_memory_at at h = cc

not_memory_nested : (at : ℕ) → TooNested at ≢ Memory
not_memory_nested at h = cc

err_is : {B : Type 0} (e f : SyntaxFault) → ◌≡◌ {A = Result B SyntaxFault} (Err e) (Err f) → e ≡ f
err_is e f h = cc

pub unexpected : UnexpectedIsFirst → {B : Type 0} (value : B → List Command) (ts : List Token) (r : Result B SyntaxFault) (at : ℕ) → IsTrue (is_ended ts)
    → ReadsAll (parse ts) r value → IsErrOf r (Unexpected at) → IsFirstUnexpected at ts
unexpected law value ts (Ok b) at h reads is = cc
unexpected law value ts (Err e) at h reads is =
    let same = err_is e (Unexpected at) is in
    law at ts (closed ts h) (reads (λ m. not_memory_at at (sym same ∙ m)) ∙ ap Err same)

pub too_nested : TooNestedCannotGoOn → {B : Type 0} (value : B → List Command) (ts : List Token) (r : Result B SyntaxFault) (at : ℕ) → IsTrue (is_ended ts)
    → ReadsAll (parse ts) r value → IsErrOf r (TooNested at) → IsTooNested nesting at ts
too_nested law value ts (Ok b) at h reads is = cc
too_nested law value ts (Err e) at h reads is =
    let same = err_is e (TooNested at) is in
    law at ts (closed ts h) (reads (λ m. not_memory_nested at (sym same ∙ m)) ∙ ap Err same)
