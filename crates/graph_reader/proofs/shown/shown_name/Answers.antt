use Rattle.std.proofs.Common.{flat_map, sym, ap, subst, ◌∙◌, map-id}
use Rattle.std.proofs.lemmas.Iterator.{YieldsList-from_chars}
use Rattle.std.proofs.lemmas.Iterator.Consumers.{YieldsList-end}
use Rattle.graph_reader.specs.Shown.{shown_char, IsOneLine}
use Rattle.graph_reader.proofs.Lines.{name_line}
use Rattle.graph_reader.proofs.shown.shown_name.Goals as goal

pub returns-clause-text : goal.returns-clause-text
returns-clause-text c =
    let end = YieldsList-end (YieldsList-from_chars c.args.name.now c.utf8.name cc) c.loop-c.yielded _ c.loop-c.yielded_by _ _ c.in-None.is c.next.ensures.steps in
    c.loop-c.invariant ∙ ap (flat_map shown_char) (sym (map-id c.loop-c.yielded) ∙ end.0)

pub returns-clause-line : goal.returns-clause-line
returns-clause-line c = subst IsOneLine (sym (returns-clause-text c)) (name_line c.args.name.now)
