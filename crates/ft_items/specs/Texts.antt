-- The text of a list of items: a derivation file, version 1.
-- A text is a list of characters, by their numbers in Unicode; a file has their UTF-8. Each line ends with a line feed. The first
-- line is `andromeda derivation 1`, then comes a line for each item, then `end`, then nothing.
use Rattle.std.specs.Prelude.{ℕ, zero, ◌^◌, ◌<◌, ◌≡◌, Bool, true, cond, List, [], ◌∷◌, ◌++◌, map, codes}
use Rattle.std.specs.List.{join_by}
use Rattle.std.specs.Fmt.{decimal}
use Rattle.std.specs.Str.{encode_utf8_all}
use Rattle.ft_theory.specs.Expressions.{Expression, bound, free, symbol, meta, Arguments, no_arguments, with_body, dummy, Terms, no_terms, also}
use Rattle.ft_theory.specs.Statements.{Claim, is_type, has_type, equal_types, equal_terms, type_goal, term_goal, type_equation_goal, term_equation_goal, Statement, plain, abstracted, AllOfStatement}
use Rattle.ft_theory.specs.Small.{IsSmall}
use Rattle.ft_items.specs.Sets.{Atom, met, var, Ascending}
use Rattle.ft_items.specs.Equal.{is_thesis}
use Rattle.ft_items.specs.Item.{Stated, by_var, by_generic, by_meta, by_metacong, by_abs, by_subst, by_substeq, by_refl, by_sym, by_trans, by_conv, by_conveq, by_left, by_right, by_typeof, by_domain, by_boundary, by_widen, by_btype, by_bterm, by_beqty, by_beqtm, by_rule, by_rulewith, by_inst, by_cong, by_convprem, by_convback, by_arg, by_natural, by_metainst, Name, Entry, Item, variable, metavariable, rule, entry, shown}

-- the texts in a row, with the separator between each two
abbrev pub joined : List ℕ → List (List ℕ) → List ℕ
joined separator texts = join_by (λ x. x) separator texts

-- the texts joined by one space
abbrev pub spaced : List (List ℕ) → List ℕ
spaced texts = joined (codes " ") texts

-- Expressions: `b` and a number, `v` and a number, `s`, a number and the arguments in parentheses, or `m`, a number and the
-- terms in parentheses. A number is decimal. Arguments and terms are joined by commas; an argument is the number of its binders,
-- a dot, and its body or a star for a dummy.

abbrev mutual
  pub expression_text : Expression → List ℕ
  expression_text (bound i) = codes "b" ++ decimal i
  expression_text (free v) = codes "v" ++ decimal v
  expression_text (symbol s a) = codes "s" ++ decimal s ++ codes "(" ++ joined (codes ",") (argument_texts a) ++ codes ")"
  expression_text (meta m a) = codes "m" ++ decimal m ++ codes "(" ++ joined (codes ",") (term_texts a) ++ codes ")"

  pub argument_texts : Arguments → List (List ℕ)
  argument_texts no_arguments = []
  argument_texts (with_body n e a) = (decimal n ++ codes "." ++ expression_text e) ∷ argument_texts a
  argument_texts (dummy n a) = (decimal n ++ codes ".*") ∷ argument_texts a

  pub term_texts : Terms → List (List ℕ)
  term_texts no_terms = []
  term_texts (also t a) = expression_text t ∷ term_texts a

-- a claim or goal: a letter and its expressions, with a space before each
abbrev pub claim_text : Claim → List ℕ
claim_text (is_type A) = spaced (codes "T" ∷ expression_text A ∷ [])
claim_text (has_type t A) = spaced (codes "t" ∷ expression_text t ∷ expression_text A ∷ [])
claim_text (equal_types A B) = spaced (codes "E" ∷ expression_text A ∷ expression_text B ∷ [])
claim_text (equal_terms s t A) = spaced (codes "e" ∷ expression_text s ∷ expression_text t ∷ expression_text A ∷ [])
claim_text type_goal = codes "T"
claim_text (term_goal A) = spaced (codes "t" ∷ expression_text A ∷ [])
claim_text (type_equation_goal A B) = spaced (codes "E" ∷ expression_text A ∷ expression_text B ∷ [])
claim_text (term_equation_goal s t A) = spaced (codes "e" ∷ expression_text s ∷ expression_text t ∷ expression_text A ∷ [])

-- a thesis or a boundary: each domain in braces, then the claim or goal
abbrev pub statement_text : Statement → List ℕ
statement_text (plain c) = claim_text c
statement_text (abstracted A x) = codes "{" ++ expression_text A ++ codes "}" ++ statement_text x

-- an atom: `m` or `v` and its number
abbrev pub atom_text : Atom → List ℕ
atom_text (met m) = codes "m" ++ decimal m
atom_text (var v) = codes "v" ++ decimal v

-- a set: its atoms in brackets, joined by commas
abbrev pub set_text : List Atom → List ℕ
set_text S = codes "[" ++ joined (codes ",") (map atom_text S) ++ codes "]"

-- what stands in a step after its word: numbers, and a slash between two lists of them
pub data Part : Type 0 where
  number : ℕ → Part
  slash : Part

-- a number is decimal
abbrev pub part_text : Part → List ℕ
part_text (number n) = decimal n
part_text slash = codes "/"

-- a step's word and its parts
abbrev pub written : Stated → List ℕ × List Part
written (by_var v) = (codes "var", number v ∷ [])
written (by_generic m) = (codes "generic", number m ∷ [])
written (by_meta m ps) = (codes "meta", number m ∷ map number ps)
written (by_metacong m es) = (codes "metacong", number m ∷ map number es)
written (by_abs v p) = (codes "abs", number v ∷ number p ∷ [])
written (by_subst p t) = (codes "subst", number p ∷ number t ∷ [])
written (by_substeq p e) = (codes "substeq", number p ∷ number e ∷ [])
written (by_refl p) = (codes "refl", number p ∷ [])
written (by_sym p) = (codes "sym", number p ∷ [])
written (by_trans p q) = (codes "trans", number p ∷ number q ∷ [])
written (by_conv p e) = (codes "conv", number p ∷ number e ∷ [])
written (by_conveq p e) = (codes "conveq", number p ∷ number e ∷ [])
written (by_left p) = (codes "left", number p ∷ [])
written (by_right p) = (codes "right", number p ∷ [])
written (by_typeof p) = (codes "typeof", number p ∷ [])
written (by_domain p) = (codes "domain", number p ∷ [])
written (by_boundary p) = (codes "boundary", number p ∷ [])
written (by_widen p q) = (codes "widen", number p ∷ number q ∷ [])
written by_btype = (codes "btype", [])
written (by_bterm p) = (codes "bterm", number p ∷ [])
written (by_beqty p q) = (codes "beqty", number p ∷ number q ∷ [])
written (by_beqtm p s t) = (codes "beqtm", number p ∷ number s ∷ number t ∷ [])
written (by_rule r ps) = (codes "rule", number r ∷ map number ps)
written (by_rulewith r b ps) = (codes "rulewith", number r ∷ number b ∷ map number ps)
written (by_inst r ps) = (codes "inst", number r ∷ map number ps)
written (by_cong r ps es) = (codes "cong", number r ∷ (map number ps ++ (slash ∷ map number es)))
written (by_convprem r ps es q) = (codes "convprem", number r ∷ (map number ps ++ (slash ∷ (map number es ++ (slash ∷ number q ∷ [])))))
written (by_convback r ps es q) = (codes "convback", number r ∷ (map number ps ++ (slash ∷ (map number es ++ (slash ∷ number q ∷ [])))))
written (by_arg i p) = (codes "arg", number i ∷ number p ∷ [])
written (by_natural p) = (codes "natural", number p ∷ [])
written (by_metainst p ms qs) = (codes "metainst", number p ∷ (map number ms ++ (slash ∷ map number qs)))

-- a step: its word and its parts, joined by spaces
abbrev pub step_text : Stated → List ℕ
step_text s = spaced ((written s).0 ∷ map part_text (written s).1)

-- The line of an item, without its line feed.
--   V number name p     a variable
--   M name b            a metavariable
--   R name m.. ; b      a rule
--   J thesis set step   an entry with a thesis
--   B boundary set step an entry with a boundary
--   W p                 a shown mark
abbrev pub line_text : Item → List ℕ
line_text (variable v n p) = spaced (codes "V" ∷ decimal v ∷ n ∷ decimal p ∷ [])
line_text (metavariable n p) = spaced (codes "M" ∷ n ∷ decimal p ∷ [])
line_text (rule n ms p) = spaced (codes "R" ∷ n ∷ (map decimal ms ++ (codes ";" ∷ decimal p ∷ [])))
line_text (entry e) = spaced (cond (is_thesis e.statement) (codes "J") (codes "B") ∷ statement_text e.statement ∷ set_text e.set ∷ step_text e.step ∷ [])
line_text (shown p) = spaced (codes "W" ∷ decimal p ∷ [])

-- the lines of items, then the line `end`
abbrev pub lines_text : List Item → List ℕ
lines_text [] = codes "end\n"
lines_text (i ∷ items) = line_text i ++ codes "\n" ++ lines_text items

-- the whole text
abbrev pub text_of : List Item → List ℕ
text_of items = codes "andromeda derivation 1\n" ++ lines_text items

-- What can be written.

-- a number is at most 18,446,744,073,709,551,615
abbrev pub NumberFits : ℕ → Type 0
NumberFits n = n < 2 ^ 64

-- each of these numbers is
abbrev pub EachNumberFits : List ℕ → Type 0
EachNumberFits [] = Unit {0}
EachNumberFits (n ∷ ns) = NumberFits n × EachNumberFits ns

-- each number in the expression fits
abbrev mutual
  pub ItsNumbersFit : Expression → Type 0
  ItsNumbersFit (bound i) = NumberFits i
  ItsNumbersFit (free v) = NumberFits v
  ItsNumbersFit (symbol s a) = NumberFits s × ArgumentNumbersFit a
  ItsNumbersFit (meta m a) = NumberFits m × TermNumbersFit a

  pub ArgumentNumbersFit : Arguments → Type 0
  ArgumentNumbersFit no_arguments = Unit {0}
  ArgumentNumbersFit (with_body n e a) = NumberFits n × ItsNumbersFit e × ArgumentNumbersFit a
  ArgumentNumbersFit (dummy n a) = NumberFits n × ArgumentNumbersFit a

  pub TermNumbersFit : Terms → Type 0
  TermNumbersFit no_terms = Unit {0}
  TermNumbersFit (also t a) = ItsNumbersFit t × TermNumbersFit a

-- each expression in the statement is small, and its numbers fit
abbrev pub StatementFits : Statement → Type 0
StatementFits x = AllOfStatement (λ k e. IsSmall e × ItsNumbersFit e) zero x

-- the atom's number fits
abbrev pub AtomFits : Atom → Type 0
AtomFits (met m) = NumberFits m
AtomFits (var v) = NumberFits v

-- each atom's number fits
abbrev pub EachAtomFits : List Atom → Type 0
EachAtomFits [] = Unit {0}
EachAtomFits (a ∷ S) = AtomFits a × EachAtomFits S

-- each part is a number that fits or a slash
abbrev pub PartsFit : List Part → Type 0
PartsFit [] = Unit {0}
PartsFit (number n ∷ ps) = NumberFits n × PartsFit ps
PartsFit (slash ∷ ps) = PartsFit ps

-- version 1 has each step but the instance of an entry
abbrev pub IsOfVersion1 : Stated → Type 0
IsOfVersion1 (by_metainst p ms qs) = ⊥
IsOfVersion1 s = Unit {0}

-- An entry can be written where its expressions are small, its set is strictly ascending, its step is of version 1, and its
-- numbers fit.
pub record EntryFits (e : Entry) : Type 0 where
  pub statement : StatementFits e.statement
  pub ascending : Ascending e.set
  pub set : EachAtomFits e.set
  pub version : IsOfVersion1 e.step
  pub step : PartsFit (written e.step).1

-- an item can be written where its numbers fit, its name is one by the test, and its entry can be written
abbrev pub ItemFits : (Name → Bool) → Item → Type 0
ItemFits is_name (variable v n p) = NumberFits v × (is_name n ≡ true) × NumberFits p
ItemFits is_name (metavariable n p) = (is_name n ≡ true) × NumberFits p
ItemFits is_name (rule n ms p) = (is_name n ≡ true) × EachNumberFits ms × NumberFits p
ItemFits is_name (entry e) = EntryFits e
ItemFits is_name (shown p) = NumberFits p

-- each item of the list can be written
abbrev pub ItemsFit : (Name → Bool) → List Item → Type 0
ItemsFit is_name [] = Unit {0}
ItemsFit is_name (i ∷ items) = ItemFits is_name i × ItemsFit is_name items

-- The bytes are the text of the list of items, where is_name tells the names: each item can be written, and the bytes are the
-- UTF-8 of the lines.
abbrev pub IsTextOf : (Name → Bool) → List ℕ → List Item → Type 0
IsTextOf is_name bytes items = ItemsFit is_name items × (bytes ≡ encode_utf8_all (text_of items))
