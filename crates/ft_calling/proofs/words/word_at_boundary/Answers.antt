use Rattle.ft_calling.proofs.WordsCalled.{boundary_left_told, boundary_right_told, boundary_typeof_told, boundary_domain_told}
use Rattle.ft_calling.proofs.words.word_at_boundary.Goals as goal

pub returns-in-Left : goal.returns-in-Left
returns-in-Left c = record { told = boundary_left_told c.args.k.now c.side_of_boundary.new.k c.args.at c.args.b c.args.asked c.side_of_boundary.result c.halted.result c.in-Left.is c.requires.boundary c.side_of_boundary.ensures.answers c.side_of_boundary.ensures.thesis c.halted.ensures }

pub returns-in-Right : goal.returns-in-Right
returns-in-Right c = record { told = boundary_right_told c.args.k.now c.side_of_boundary-in-Right.new.k c.args.at c.args.b c.args.asked c.side_of_boundary-in-Right.result c.halted-in-Right.result c.in-Right.is c.requires.boundary c.side_of_boundary-in-Right.ensures.answers c.side_of_boundary-in-Right.ensures.thesis c.halted-in-Right.ensures }

pub returns-in-Typeof : goal.returns-in-Typeof
returns-in-Typeof c = record { told = boundary_typeof_told c.args.k.now c.side_of_boundary-in-Typeof.new.k c.args.at c.args.b c.args.asked c.side_of_boundary-in-Typeof.result c.halted-in-Typeof.result c.in-Typeof.is c.requires.boundary c.side_of_boundary-in-Typeof.ensures.answers c.side_of_boundary-in-Typeof.ensures.thesis c.halted-in-Typeof.ensures }

pub returns-in-Domain : goal.returns-in-Domain
returns-in-Domain c = record { told = boundary_domain_told c.args.k.now c.side_of_boundary-in-Domain.new.k c.args.at c.args.b c.args.asked c.side_of_boundary-in-Domain.result c.halted-in-Domain.result c.in-Domain.is c.requires.boundary c.side_of_boundary-in-Domain.ensures.answers c.side_of_boundary-in-Domain.ensures.thesis c.halted-in-Domain.ensures }
