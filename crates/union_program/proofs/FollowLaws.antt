-- What `follow` loads: the same as sessions load without names, and in order.
use Rattle.std.proofs.Common.{List}
use Rattle.names_file.specs.Named.{no_names}
use Rattle.union_files.specs.Deliveries.{Delivery}
use Rattle.union_files.specs.declared.loaded.Loaded.{Loaded}
use Rattle.union_follow.specs.Following.{HasFollowed}
use Rattle.union_watch.specs.Runs.{HasTurned}
use Rattle.union_program.specs.Follow.{AreInOrder}

pub followed-turned : (all : List Delivery) (loaded : Loaded) → HasFollowed all loaded → HasTurned AreInOrder no_names all loaded
followed-turned all loaded has = record {
  names_are = has.united.names_are;
  refused = has.united.refused;
  streams = has.united.union.streams;
  delivered = has.united.union.delivered;
  turns = (has.united.union.interleaving, has.order);
  reports = has.united.union.reports;
}
