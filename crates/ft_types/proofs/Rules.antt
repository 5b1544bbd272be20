-- Lemmas that the search for proofs goes by.
use Rattle.ft_items.proofs.Names.{bytes_eq-names}
use Rattle.ft_meaning.proofs.Written.{form_LetIn, form_If, form_Match, form_Handle_None, form_Handle_Some, form_Abstract, form_Cons, form_Refl, form_Sym, form_Left, form_Right, form_Typeof, form_Domain, form_Natural, form_Normal, form_Boundaryof, form_SomeWord, form_Trans, form_Convert, form_Equal, form_Widen, form_Rewrite, form_Fill, form_Argument, form_Congruence, form_Perform, form_Call, form_Subst, form_TrueWord, form_FalseWord, form_Unit, form_Pair, form_NoneWord, form_Nil, pattern_Cons, pattern_SomeWord, pattern_Symbol, pattern_Name, pattern_Wildcard, pattern_TrueWord, pattern_FalseWord, pattern_Unit, pattern_NoneWord, pattern_Nil, pattern_Pair}
use Rattle.ft_types.proofs.PremiseSteps.{adds_same, adds_more, adds_then, adds_count, adds_left}
use Rattle.ft_types.proofs.Keeping.{keeps_same, keeps_trans, below_kept, type_kept_on}

-- a form as it is written, by its variant
pub ruleset written_forms = (form_LetIn, form_If, form_Match, form_Handle_None, form_Handle_Some, form_Abstract, form_Cons, form_Refl, form_Sym, form_Left, form_Right, form_Typeof, form_Domain, form_Natural, form_Normal, form_Boundaryof, form_SomeWord, form_Trans, form_Convert, form_Equal, form_Widen, form_Rewrite, form_Fill, form_Argument, form_Congruence, form_Perform, form_Call, form_Subst, form_TrueWord, form_FalseWord, form_Unit, form_Pair, form_NoneWord, form_Nil)

-- a pattern as it is written, by its variant
pub ruleset written_patterns = (pattern_Cons, pattern_SomeWord, pattern_Symbol, pattern_Name, pattern_Wildcard, pattern_TrueWord, pattern_FalseWord, pattern_Unit, pattern_NoneWord, pattern_Nil, pattern_Pair)

-- what stays while a command is checked
pub ruleset keeping = (keeps_same, keeps_trans, below_kept, type_kept_on)

-- names are compared by their characters
pub ruleset same_names = (bytes_eq-names)

-- names that are added within a command
pub ruleset adding = (adds_same, adds_more, adds_then, adds_count, adds_left)
