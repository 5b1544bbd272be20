use Rattle.ft_calling.proofs.WordsCalled.{trans_told, widen_told, rewrite_told, other_convert_told}
use Rattle.ft_calling.proofs.words.word_at_two.Goals as goal

pub returns-in-Trans : goal.returns-in-Trans
returns-in-Trans c = record { told = λ second. trans_told c.args.k.now c.trans.new.k c.args.at c.args.i c.args.j c.args.asked c.trans.result c.halted.result c.in-Trans.is c.requires.first c.requires.second c.trans.ensures.answers c.trans.ensures.thesis c.halted.ensures second }

pub returns-in-Convert : goal.returns-in-Convert
returns-in-Convert c = record { told = λ second. other_convert_told c.args.k.now c.convert.new.k c.args.at c.args.i c.args.j c.args.asked c.convert.result c.in-Convert.is c.convert.ensures.told second }

pub returns-in-Widen : goal.returns-in-Widen
returns-in-Widen c = record { told = λ second. widen_told c.args.k.now c.widen.new.k c.args.at c.args.i c.args.j c.args.asked c.widen.result c.halted-in-Widen.result c.in-Widen.is c.requires.first c.requires.second c.widen.ensures.answers c.widen.ensures.thesis c.halted-in-Widen.ensures second }

pub returns-in-Rewrite : goal.returns-in-Rewrite
returns-in-Rewrite c = record { told = λ second. rewrite_told c.args.k.now c.substitute_equal.new.k c.args.at c.args.i c.args.j c.args.asked c.substitute_equal.result c.halted-in-Rewrite.result c.in-Rewrite.is c.requires.first c.requires.second c.substitute_equal.ensures.answers c.substitute_equal.ensures.thesis c.halted-in-Rewrite.ensures second }
