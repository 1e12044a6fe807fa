pub mod TabLaws
pub mod LaidLaws
pub mod ScanLaws
pub mod RoundTrip
