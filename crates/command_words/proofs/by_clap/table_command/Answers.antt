use Rattle.std.proofs.Common.{ap, ap₂, codes, true, ◌≡◌, ◌∙◌}
use Rattle.clap.specs.Simple.{Shape, app_of, app_of_fields, new_app, with_rule, on_top}
use Rattle.std.proofs.lemmas.Result.{IfOk-weaker}
use Rattle.command_words.proofs.ClapLaws.{table_is}
use Rattle.command_words.proofs.by_clap.table_command.Goals as goal

abbrev named : Shape → Shape
named s = record s { no_binary_name = true }

abbrev helpless : Shape → Shape
helpless s = record s { disable_help_flag = true }

pub returns : goal.returns
returns c =
    let base : app_of c.disable_help_flag.result ≡ on_top helpless (on_top named (new_app (codes "words"))) =
    ap app_of_fields c.disable_help_flag.ensures ∙ ap (on_top helpless) (ap app_of_fields c.no_binary_name.ensures ∙ ap (on_top named) c.new.ensures.app) in
    let one = c.in_ok-arg.ensures.shape c.value_option-workers.ensures.local ∙ ap₂ with_rule base c.value_option-workers.ensures.rule in
    let two = c.in_ok-arg-2.ensures.shape c.value_option-lives.ensures.local ∙ ap₂ with_rule one c.value_option-lives.ensures.rule in
    let three = c.in_ok-arg-3.ensures.shape c.flag_option-records.ensures.local ∙ ap₂ with_rule two c.flag_option-records.ensures.rule in
    let four = c.in_ok-arg-4.ensures.shape c.value_option-schedule.ensures.local ∙ ap₂ with_rule three c.value_option-schedule.ensures.rule in
    let five = c.in_ok-arg-5.ensures.shape c.value_option-turns.ensures.local ∙ ap₂ with_rule four c.value_option-turns.ensures.rule in
    IfOk-weaker c.arg-6.result _ _ (λ command h. h.shape c.lone_word-number.ensures.local ∙ ap₂ with_rule five c.lone_word-number.ensures.rule ∙ table_is) c.arg-6.ensures
