mod Ranges
mod Signs
mod Spans
mod PriceSizes
mod Floors
mod AverageLaws
