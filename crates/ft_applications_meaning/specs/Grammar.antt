-- The grammar of applications, as a relation between lists of tokens and trees. Parentheses make no node. The expression in
-- a command has nesting 1, and one in parentheses has nesting 1 greater than the expression around it.
use Rattle.std.specs.Prelude.{ℕ, suc, List, [], ◌∷◌, ◌++◌, map}
use Rattle.ft_base.specs.declared.word.Word.TheVariants as word
use Rattle.ft_grammar.specs.declared.token.Mark.TheVariants as mark
use Rattle.ft_grammar.specs.declared.token.Token.{Token}
use Rattle.ft_grammar.specs.declared.token.Kind.{Kind}
use Rattle.ft_grammar.specs.declared.token.Kind.TheVariants as kind
use Rattle.ft_applications_meaning.specs.declared.syntax.Application.{Application}
use Rattle.ft_applications_meaning.specs.declared.syntax.Application.TheVariants as application
use Rattle.ft_applications_meaning.specs.declared.syntax.Premise.{Premise}
use Rattle.ft_applications_meaning.specs.declared.syntax.Premise.TheVariants as premise
use Rattle.ft_applications_meaning.specs.declared.syntax.Conclusion.{Conclusion}
use Rattle.ft_applications_meaning.specs.declared.syntax.Conclusion.TheVariants as conclusion
use Rattle.ft_applications_meaning.specs.declared.syntax.Command.{Command}
use Rattle.ft_applications_meaning.specs.declared.syntax.Command.TheVariants as command

-- the kinds of the tokens
abbrev pub kinds : List Token → List Kind
kinds ts = map (λ t. t.kind) ts

-- the token (
abbrev pub left : Kind
left = kind.Mark mark.LeftParen

-- the token )
abbrev pub right : Kind
right = kind.Mark mark.RightParen

-- the token :
abbrev pub colon : Kind
colon = kind.Mark mark.Colon

-- the token `type`
abbrev pub type_word : Kind
type_word = kind.Word word.TypeWord

mutual
  -- an expression with at most d nested ones, itself among them: a name with arguments
  pub data IsApplication : ℕ → Application → List Kind → Type 0 where
    applied : {d : ℕ} {as' : List Application} {ks : List Kind} (n : List ℕ) → AreArguments d as' ks
        → IsApplication (suc d) (application.Apply n as') (kind.Name n ∷ ks)

  -- arguments: names, and expressions in parentheses
  pub data AreArguments : ℕ → List Application → List Kind → Type 0 where
    no_argument : {d : ℕ} → AreArguments d [] []
    name_alone : {d : ℕ} {as' : List Application} {ks : List Kind} (n : List ℕ) → AreArguments d as' ks
        → AreArguments d (application.Apply n [] ∷ as') (kind.Name n ∷ ks)
    in_parentheses : {d : ℕ} {a : Application} {as' : List Application} {js ks : List Kind} → IsApplication d a js → AreArguments d as' ks
        → AreArguments d (a ∷ as') (left ∷ (js ++ right ∷ ks))

-- an expression in a command, with at most 200 nested ones
abbrev pub IsExpression : Application → List Kind → Type 0
IsExpression a ks = IsApplication 200 a ks

-- ( NAME type ), or ( NAME : expression )
pub data IsPremise : Premise → List Kind → Type 0 where
  type_premise : (n : List ℕ) → IsPremise (premise.Type n) (left ∷ kind.Name n ∷ type_word ∷ right ∷ [])
  term_premise : {a : Application} {ks : List Kind} (n : List ℕ) → IsExpression a ks
      → IsPremise (premise.Term n a) (left ∷ kind.Name n ∷ colon ∷ (ks ++ right ∷ []))

-- any number of premises
pub data ArePremises : List Premise → List Kind → Type 0 where
  no_premise : ArePremises [] []
  next_premise : {p : Premise} {ps : List Premise} {js ks : List Kind} → IsPremise p js → ArePremises ps ks → ArePremises (p ∷ ps) (js ++ ks)

-- type, or : expression
pub data IsConclusion : Conclusion → List Kind → Type 0 where
  type_conclusion : IsConclusion conclusion.Type (type_word ∷ [])
  term_conclusion : {a : Application} {ks : List Kind} → IsExpression a ks → IsConclusion (conclusion.Term a) (colon ∷ ks)

-- rule NAME premises conclusion, or show expression
pub data IsCommand : Command → List Kind → Type 0 where
  a_rule : {ps : List Premise} {c : Conclusion} {js ks : List Kind} (n : List ℕ) → ArePremises ps js → IsConclusion c ks
      → IsCommand (command.Rule n ps c) (kind.Word word.Rule ∷ kind.Name n ∷ (js ++ ks))
  a_show : {a : Application} {ks : List Kind} → IsExpression a ks → IsCommand (command.Show a) (kind.Word word.Show ∷ ks)

-- any number of commands, and the end
pub data AreCommands : List Command → List Kind → Type 0 where
  the_end : AreCommands [] (kind.End ∷ [])
  next_command : {c : Command} {cs : List Command} {js ks : List Kind} → IsCommand c js → AreCommands cs ks → AreCommands (c ∷ cs) (js ++ ks)
