-- Renewing a notify word or the descriptor of a life keeps every part.
use Rattle.std.proofs.Common.{ℕ, ◌+◌, inl, inr, arith, refl}
use Rattle.core_state.specs.Graph.{Setting}
use Rattle.core_state.specs.Words.{descriptor, notify, empty_word}
use Rattle.core_state.specs.Counts.{knows_row}
use Rattle.core_state.specs.Change.{Core, Change}
use Rattle.core_state.specs.Invariant.{Invariant}
use Rattle.core_state.specs.Guards.{CanRenewNotify, CanRenewDescriptor}
use Rattle.core_state.specs.Effects.{after_renew}
use Rattle.core_state.specs.declared.views.View.{View}
use Rattle.core_state.specs.declared.views.Word.TheVariants as word
use Rattle.core_state.proofs.Replace.RenewedWord.{renewed_keeps}

module _ (e : Setting) (s t : Core) (r k l w n : ℕ) (v : View) (can : CanRenewNotify e v r k l w) (c : Change s t (notify r w) n (empty_word (l + 1)) v (after_renew k l w v)) (inv : Invariant e s) where
  pub keeps_renew_notify : Invariant e t
  keeps_renew_notify = renewed_keeps e s t r k l w n (word.Notify w) v (inv.keys.known r k (let a = c.within (knows_row r k) in let b = can.row.row_known in omega (arith, a, b))) (inl (refl, can.word_in)) can.at_work c inv

module _ (e : Setting) (s t : Core) (r k l n : ℕ) (v : View) (can : CanRenewDescriptor e v r k l) (c : Change s t (descriptor r) n (empty_word (l + 1)) v (after_renew k l (e.graph.notify_words k) v)) (inv : Invariant e s) where
  pub keeps_renew_descriptor : Invariant e t
  keeps_renew_descriptor = renewed_keeps e s t r k l (e.graph.notify_words k) n word.Descriptor v (inv.keys.known r k (let a = c.within (knows_row r k) in let b = can.row.row_known in omega (arith, a, b))) (inr (refl, refl)) can.at_work c inv
