-- The JSON values and records that bytes hold, and the JSON values and bytes that decode to a regular map.
pub use Rattle.sourcemap_records.specs.Bytes.{IsJson, HoldJson, IsHeaderError, HoldNoJson, HoldRecord, HoldNoRecord}
pub use Rattle.sourcemap_records.specs.Bytes.{ValueHasResult, BytesHaveResult, UrlHasResult, IsSameError, AreSame}
pub use Rattle.sourcemap_records.specs.Bytes.{UnlessReadFails, IsAnswerRead, Reading}
pub use Rattle.sourcemap_map_regular.specs.Decode.{is_regular, RegularDecodes}
