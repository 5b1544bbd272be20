-- What a form gives after its unit is spent.
use Rattle.std.specs.Prelude.{[], ◌∷◌}
use Rattle.ft_reference.specs.Nucleus as reference
use Rattle.ft_meaning.specs.Names.{named}
use Rattle.ft_meaning.specs.Trees.{Form, let_in, if_then, match_with, handle_with, abstraction}
use Rattle.ft_meaning.specs.Trees.{cons_of, one, two, argument, congruence, perform, call}
use Rattle.ft_meaning.specs.Trees.{substitution, truth_of, unit_of, pair_of, none_of, nil_of, place}
use Rattle.ft_meaning.specs.Values.{Environment, Run, ◌>>=◌, pure, end, performs}
use Rattle.ft_meaning.specs.Values.{nucleus, as_judgement, as_judgements, the_rule}
use Rattle.ft_meaning.specs.Values as meaning
use Rattle.ft_meaning.specs.Forms.{meaning as meaning_of, branch, first_match, of_value, handled}
use Rattle.ft_meaning.specs.Forms.{of_operation, make_variable, abstract_value, word_at}
use Rattle.ft_meaning.specs.Forms.{word_at_two, judged, applied, substituted, value_or_rule}

-- what a form gives after its unit is spent
abbrev pub begun : Form → Environment → Run meaning.Value
begun (let_in at x e f) G = do
  v ← meaning_of e G
  meaning_of f ((x.name, v) ∷ G)
begun (if_then at e f g) G = do
  v ← meaning_of e G
  branch v (meaning_of f G) (meaning_of g G)
begun (match_with at e cs) G = do
  v ← meaning_of e G
  first_match at cs v G
begun (handle_with at e c hs) G = λ s. handled (λ v. of_value c v G) (λ op v p. of_operation hs op v p G) (meaning_of e G s)
begun (abstraction at x e f) G = do
  v ← meaning_of e G
  A ← as_judgement v
  y ← make_variable at x.name A
  j ← nucleus at (λ W. reference.variable W y)
  w ← meaning_of f ((x.name, meaning.judgement j) ∷ G)
  abstract_value at y w
begun (cons_of at e f) G = do
  v ← meaning_of e G
  w ← meaning_of f G
  pure (meaning.cons v w)
begun (one at word e) G = do
  v ← meaning_of e G
  word_at at word v
begun (two at word e f) G = do
  v ← meaning_of e G
  w ← meaning_of f G
  word_at_two at (place f) word v w
begun (argument at e i) G = do
  v ← meaning_of e G
  j ← as_judgement v
  judged at (λ W. reference.argument W i j)
begun (congruence at R e f) G = do
  v ← meaning_of e G
  w ← meaning_of f G
  js ← as_judgements v
  es ← as_judgements w
  r ← the_rule R.name
  judged at (λ W. reference.congruence W r js es)
begun (perform at op e) G = do
  v ← meaning_of e G
  end (performs op.name v at)
begun (call at x es) G =
    value_or_rule (named G x.name) es (the_rule x.name >>= λ r. applied at r es G [])
begun (substitution at e es) G = do
  v ← meaning_of e G
  substituted at es v G
begun (truth_of at b) G = pure (meaning.truth b)
begun (unit_of at) G = pure meaning.unit
begun (pair_of at e f) G = do
  v ← meaning_of e G
  w ← meaning_of f G
  pure (meaning.pair v w)
begun (none_of at A) G = pure meaning.none
begun (nil_of at A) G = pure meaning.nil
