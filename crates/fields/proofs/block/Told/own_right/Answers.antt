-- What each place asks by itself: an arm of the code for a law of ByPlace.
use borrow.Author.Rules.{rules}
use Rattle.fields.proofs.ByPlace.{in-core, in-time, in-check, ending, elsewhere}
use Rattle.fields.proofs.block.Told.own_right.Goals as goal

pub returns-in-3 : goal.returns-in-3
returns-in-3 c = let a = c.args in in-core a.self.units a.self.defined a.self.on a.self.own a.self.pends a.x c.no_condition.ensures c.in-3.is

pub returns-in-5 : goal.returns-in-5
returns-in-5 c = let a = c.args in in-time a.self.units a.self.defined a.self.on a.self.own a.self.pends a.x c.in-5.is

pub returns-in-7 : goal.returns-in-7
returns-in-7 c = let a = c.args in in-check a.self.units a.self.defined a.self.on a.self.own a.self.pends a.x c.in-7.is

pub returns-in-8 : goal.returns-in-8
returns-in-8 c = let a = c.args in ending a.self.units a.self.defined a.self.on a.self.own a.self.pends a.x c.no_condition-in-8.ensures c.in-8.is

pub returns-in_default : goal.returns-in_default
returns-in_default c =
    let a = c.args in
    elsewhere a.self.units a.self.defined a.self.on a.self.own a.self.pends a.x c.no_condition-in_default.ensures (search rules) (search rules) (search rules) (search rules) (search rules)
