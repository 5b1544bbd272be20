-- A code of expressions, so that a model can have them.
use Rattle.std.specs.Prelude.{◌≡◌, zero, suc, List, refl}
use mathlib.Core.Path.{ap, ap₂}
use Rattle.std.specs.Coded.{code_by}
use base.Stored.{Coded, coded_list, Gv, gnil, gnum, gcons}
use Rattle.ft_theory.specs.Expressions.{Expression, bound, free, symbol, meta, Arguments, no_arguments, with_body, dummy, Terms, no_terms, also}

abbrev mutual
  pub code : Expression → Gv
  code (bound i) = gcons (gnum 0) (gnum i)
  code (free v) = gcons (gnum 1) (gnum v)
  code (symbol s es) = gcons (gcons (gnum s) gnil) (code_arguments es)
  code (meta m ts) = gcons (gcons (gnum m) (gnum 0)) (code_terms ts)

  pub code_arguments : Arguments → Gv
  code_arguments no_arguments = gnil
  code_arguments (with_body n e es) = gcons (gcons (gnum n) (code e)) (code_arguments es)
  code_arguments (dummy n es) = gcons (gnum n) (code_arguments es)

  pub code_terms : Terms → Gv
  code_terms no_terms = gnil
  code_terms (also t ts) = gcons (code t) (code_terms ts)

abbrev mutual
  pub decode : Gv → Expression
  decode (gcons (gnum zero) (gnum i)) = bound i
  decode (gcons (gnum (suc n)) (gnum v)) = free v
  decode (gcons (gcons (gnum s) gnil) es) = symbol s (decode_arguments es)
  decode (gcons (gcons (gnum m) (gnum n)) ts) = meta m (decode_terms ts)
  decode _ = bound 0

  pub decode_arguments : Gv → Arguments
  decode_arguments (gcons (gcons (gnum n) e) es) = with_body n (decode e) (decode_arguments es)
  decode_arguments (gcons (gnum n) es) = dummy n (decode_arguments es)
  decode_arguments _ = no_arguments

  pub decode_terms : Gv → Terms
  decode_terms (gcons t ts) = also (decode t) (decode_terms ts)
  decode_terms _ = no_terms

mutual
  pub decode-code : (e : Expression) → decode (code e) ≡ e
  decode-code (bound i) = refl
  decode-code (free v) = refl
  decode-code (symbol s es) = ap (symbol s) (decode_arguments-code es)
  decode-code (meta m ts) = ap (meta m) (decode_terms-code ts)

  pub decode_arguments-code : (es : Arguments) → decode_arguments (code_arguments es) ≡ es
  decode_arguments-code no_arguments = refl
  decode_arguments-code (with_body n e es) = ap₂ (with_body n) (decode-code e) (decode_arguments-code es)
  decode_arguments-code (dummy n es) = ap (dummy n) (decode_arguments-code es)

  pub decode_terms-code : (ts : Terms) → decode_terms (code_terms ts) ≡ ts
  decode_terms-code no_terms = refl
  decode_terms-code (also t ts) = ap₂ also (decode-code t) (decode_terms-code ts)

abbrev pub coded_expression : Coded Expression
coded_expression = code_by Gv (record { code = λ x. x; inj = λ x y p. p }) code decode decode-code

abbrev pub coded_expressions : Coded (List Expression)
coded_expressions = coded_list coded_expression
