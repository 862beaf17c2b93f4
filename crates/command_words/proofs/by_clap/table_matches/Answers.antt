use Rattle.std.proofs.Common.{map, string_bytes}
use Rattle.clap.specs.Simple.{app_of}
use Rattle.command_words.specs.ByClap.{table_app}
use Rattle.command_words.proofs.ClapLaws.{answers_spelled, table_is_free, table_is_simple, fails_by, rows_by}
use Rattle.command_words.proofs.by_clap.table_matches.Goals as goal

pub returns : goal.returns
returns c =
    let words = map string_bytes c.args.words.now in
    let app = app_of c.in_ok-command.command in
    let parse = c.try_get_matches_from in
    let fault = fails_by app table_app words parse.result c.in_ok-command.ensures table_is_free parse.ensures.kinds in
    let matches = rows_by app table_app words parse.result c.in_ok-command.ensures table_is_simple parse.ensures.matches in
    record { fails = fault; rows = matches; meaning = answers_spelled words parse.result fault matches }
