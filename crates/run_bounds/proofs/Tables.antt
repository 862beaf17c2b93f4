-- What the parts of the invariant see of a plain table: its pending word.
use Rattle.std.proofs.Common.{◌≡◌, slice_index, refl}
use Rattle.core_state.specs.Graph.{Setting}
use Rattle.core_state.specs.Words.{pending}
use Rattle.core_state.proofs.Base.Words.{read_at}
use Rattle.core_steps.specs.Table.{IsSound, Plain}
use Rattle.run_bounds.specs.Struck.{core_in}

pub pending_table : (e : Setting) (q : Plain) → IsSound e q → (core_in q).word pending ≡ slice_index q.words 0
pending_table e q sound = read_at q.shape q.words pending refl
