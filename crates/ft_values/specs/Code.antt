-- A code of values, so that a model can have them.
use Rattle.std.specs.Prelude.{◌≡◌, zero, suc, true, false, List, refl}
use mathlib.Core.Path.{ap, ap₂}
use Rattle.std.specs.Coded.{code_by}
use base.Stored.{Coded, coded_list, Gv, gnil, gnum, gcons}
use Rattle.ft_values.specs.Kept.{Kept, judgement, boundary, unit, truth}
use Rattle.ft_values.specs.Kept.{pair, nil, cons, none, some}

abbrev pub code : Kept → Gv
code (judgement j) = gcons (gnum 0) (gnum j)
code (boundary b) = gcons (gnum 1) (gnum b)
code unit = gnum 0
code (truth false) = gnum 1
code (truth true) = gnum 2
code (pair v w) = gcons (gcons (code v) (code w)) gnil
code nil = gnum 3
code (cons v w) = gcons (gcons (code v) (code w)) (gnum 0)
code none = gnum 4
code (some v) = gcons (gnum 2) (code v)

abbrev pub decode : Gv → Kept
decode (gnum zero) = unit
decode (gnum (suc zero)) = truth false
decode (gnum (suc (suc zero))) = truth true
decode (gnum (suc (suc (suc zero)))) = nil
decode (gnum (suc (suc (suc (suc n))))) = none
decode (gcons (gnum zero) (gnum j)) = judgement j
decode (gcons (gnum (suc zero)) (gnum b)) = boundary b
decode (gcons (gnum (suc (suc n))) a) = some (decode a)
decode (gcons (gcons a b) gnil) = pair (decode a) (decode b)
decode (gcons (gcons a b) (gnum n)) = cons (decode a) (decode b)
decode _ = unit

pub decode-code : (v : Kept) → decode (code v) ≡ v
decode-code (judgement j) = refl
decode-code (boundary b) = refl
decode-code unit = refl
decode-code (truth false) = refl
decode-code (truth true) = refl
decode-code (pair v w) = ap₂ pair (decode-code v) (decode-code w)
decode-code nil = refl
decode-code (cons v w) = ap₂ cons (decode-code v) (decode-code w)
decode-code none = refl
decode-code (some v) = ap some (decode-code v)

abbrev pub coded_value : Coded Kept
coded_value = code_by Gv (record { code = λ x. x; inj = λ x y p. p }) code decode decode-code

abbrev pub coded_values : Coded (List Kept)
coded_values = coded_list coded_value
