use Rattle.path_tasks.proofs.Edges.{rank_falls, port_in_range, place_in_range, pred_is_succ, succ_is_pred, overwrites_last}
use Rattle.path_tasks.proofs.Order.{in_key_order}
use Rattle.path_tasks.proofs.OrderPlaces.{order_is_readers, order_ascends}
use Rattle.path_tasks.proofs.laws.Goals as goal

pub returns : goal.returns
returns c = record {
  ranks = rank_falls c.args.b;
  ports = port_in_range c.args.b;
  places = place_in_range c.args.b;
  there = pred_is_succ c.args.b;
  back = succ_is_pred c.args.b;
  versions = overwrites_last c.args.b;
  order = in_key_order c.args.b;
  readers = order_is_readers c.args.b;
  ascending = order_ascends c.args.b;
}
