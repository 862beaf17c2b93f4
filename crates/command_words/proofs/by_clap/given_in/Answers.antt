use Rattle.std.proofs.Common.{◌∙◌, ap, codes}
use Rattle.clap.specs.Words.{found_of}
use Rattle.clap.proofs.WalkLemmas.{first_value-rows}
use Rattle.command_words.specs.ByClap.{flag_text}
use Rattle.command_words.proofs.by_clap.given_in.Goals as goal

pub returns : goal.returns
returns c =
    let found = found_of c.args.matches.now in
    λ i. record {
      workers = (c.get_str.ensures ∙ first_value-rows found (codes "workers")) i;
      lives = (c.get_str-2.ensures ∙ first_value-rows found (codes "lives")) i;
      records = (c.flag_in.ensures ∙ ap flag_text (c.get_str-3.ensures ∙ first_value-rows found (codes "records"))) i;
      schedule = (c.get_str-4.ensures ∙ first_value-rows found (codes "schedule")) i;
      turns = (c.get_str-5.ensures ∙ first_value-rows found (codes "turns")) i;
      number = (c.get_str-6.ensures ∙ first_value-rows found (codes "number")) i;
    }
