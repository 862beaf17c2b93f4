use Rattle.std.proofs.Common.{sym, ◌∙◌, string_bytes}
use Rattle.graph_reader.proofs.Escapes.{shown_control, appended}
use Rattle.graph_reader.proofs.shown.put_char.Goals as goal

pub returns-then-is_control : goal.returns-then-is_control
returns-then-is_control c =
    let digits = rw (c.in_radix.ensures, c.laid_out.ensures) at c.in_ok-escape.ensures.ok in
    let same = c.as_str.ensures.value ∙ digits ∙ shown_control c.args.c (sym c.is_control.ensures ∙ c.if-is_control.true) in
    rw (← same) (appended c.push_str.result (string_bytes c.push_str.new.self) (string_bytes c.args.text.now) c.as_str.result.now c.push_str.ensures.bytes)
