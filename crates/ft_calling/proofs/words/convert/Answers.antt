use Rattle.ft_calling.proofs.WordsCalled.{convert_equation_told, convert_told}
use Rattle.ft_calling.proofs.words.convert.Goals as goal

pub returns-then-is_equation : goal.returns-then-is_equation
returns-then-is_equation c = record { told = λ second. convert_equation_told c.args.k.now c.convert_equation.new.k c.args.at c.args.i c.args.j c.is_equation.result c.convert_equation.result c.halted.result c.is_equation.ensures c.if-is_equation.true c.requires.first c.requires.second c.convert_equation.ensures.answers c.convert_equation.ensures.thesis c.halted.ensures second }

pub returns : goal.returns
returns c = record { told = λ second. convert_told c.args.k.now c.convert.new.k c.args.at c.args.i c.args.j c.is_equation.result c.convert.result c.halted-2.result c.is_equation.ensures c.if-is_equation.false c.requires.first c.requires.second c.convert.ensures.answers c.convert.ensures.thesis c.halted-2.ensures second }
