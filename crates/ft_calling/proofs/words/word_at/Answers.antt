use Rattle.ft_calling.proofs.WordsCalled.{refl_told, sym_told, left_told, right_told, typeof_told, domain_told, natural_told}
use Rattle.ft_calling.proofs.words.word_at.Goals as goal

pub returns-in-Refl : goal.returns-in-Refl
returns-in-Refl c = record { told = refl_told c.args.k.now c.refl.new.k c.args.at c.args.j c.args.asked c.refl.result c.halted.result c.in-Refl.is c.requires.judgement c.refl.ensures.answers c.refl.ensures.thesis c.halted.ensures }

pub returns-in-Sym : goal.returns-in-Sym
returns-in-Sym c = record { told = sym_told c.args.k.now c.sym.new.k c.args.at c.args.j c.args.asked c.sym.result c.halted-in-Sym.result c.in-Sym.is c.requires.judgement c.sym.ensures.answers c.sym.ensures.thesis c.halted-in-Sym.ensures }

pub returns-in-Left : goal.returns-in-Left
returns-in-Left c = record { told = left_told c.args.k.now c.side.new.k c.args.at c.args.j c.args.asked c.side.result c.halted-in-Left.result c.in-Left.is c.requires.judgement c.side.ensures.answers c.side.ensures.thesis c.halted-in-Left.ensures }

pub returns-in-Right : goal.returns-in-Right
returns-in-Right c = record { told = right_told c.args.k.now c.side-in-Right.new.k c.args.at c.args.j c.args.asked c.side-in-Right.result c.halted-in-Right.result c.in-Right.is c.requires.judgement c.side-in-Right.ensures.answers c.side-in-Right.ensures.thesis c.halted-in-Right.ensures }

pub returns-in-Typeof : goal.returns-in-Typeof
returns-in-Typeof c = record { told = typeof_told c.args.k.now c.side-in-Typeof.new.k c.args.at c.args.j c.args.asked c.side-in-Typeof.result c.halted-in-Typeof.result c.in-Typeof.is c.requires.judgement c.side-in-Typeof.ensures.answers c.side-in-Typeof.ensures.thesis c.halted-in-Typeof.ensures }

pub returns-in-Domain : goal.returns-in-Domain
returns-in-Domain c = record { told = domain_told c.args.k.now c.side-in-Domain.new.k c.args.at c.args.j c.args.asked c.side-in-Domain.result c.halted-in-Domain.result c.in-Domain.is c.requires.judgement c.side-in-Domain.ensures.answers c.side-in-Domain.ensures.thesis c.halted-in-Domain.ensures }

pub returns-in-Natural : goal.returns-in-Natural
returns-in-Natural c = record { told = natural_told c.args.k.now c.natural.new.k c.args.at c.args.j c.args.asked c.natural.result c.halted-in-Natural.result c.in-Natural.is c.requires.judgement c.natural.ensures.answers c.natural.ensures.thesis c.halted-in-Natural.ensures }
