use Rattle.elements.specs.FieldsLaws.{marked-in, marked-octets, marked-none}
use borrow.Author.Rules.{rules}
use Rattle.elements.proofs.segment.Segment.field.Goals as goal

pub returns-then-self-b : goal.returns-then-self-b
returns-then-self-b c = marked-none c.args.self.now.marked c.requires.le_p.0 c.requires.le_p.1 c.if-self-b.true

pub slice_bounds-result-count-2 : goal.slice_bounds-result-count-2
slice_bounds-result-count-2 c = let w = marked-in c.args.self.now.marked c.requires.le_p.0 c.requires.le_p.1 c.requires.le_p.2 c.if-self-b.false in search rules

pub slice_bounds-result-start-2 : goal.slice_bounds-result-start-2
slice_bounds-result-start-2 c = let w = marked-in c.args.self.now.marked c.requires.le_p.0 c.requires.le_p.1 c.requires.le_p.2 c.if-self-b.false in search rules

pub slice_bounds-result-end-2 : goal.slice_bounds-result-end-2
slice_bounds-result-end-2 c = let w = marked-in c.args.self.now.marked c.requires.le_p.0 c.requires.le_p.1 c.requires.le_p.2 c.if-self-b.false in search rules

pub returns : goal.returns
returns c = marked-octets c.args.self.now.marked c.requires.le_p.0 c.requires.le_p.1 c.requires.le_p.2 c.if-self-b.false
