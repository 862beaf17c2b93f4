-- What every step uses: bits, counts, words by name, and parts of the invariant whose words and counts stay.
pub mod Bits
pub mod Packing
pub mod Counting
pub mod Sums
pub mod Words
pub mod Paths
pub mod MoreRecords
pub mod Frame
pub mod WeakFrame
pub mod RecordFrame
pub mod Tops
pub mod ItemMoves
pub mod Tables
